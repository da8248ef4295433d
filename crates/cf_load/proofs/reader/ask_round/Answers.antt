use Rattle.std.proofs.Common.{refl, ◌≡◌, ◌<◌, ◌+◌, ◌++◌, ◌∷◌, [], ℕ, List, length, length-append, get_or, ap, sym, subst, ◌∙◌, arith, rules}
use Rattle.std.proofs.lemmas.List.{get_or-map}
use Rattle.cf_row.specs.declared.row.Entry.{Entry}
use Rattle.cf_plain.specs.Asks.{eval, rows_in}
use Rattle.cf_plain.specs.Segments.{finding_in}
use Rattle.cf_plain.specs.declared.answer.Answer.{Answer}
use Rattle.cf_plain.specs.declared.ask.Ask.{Ask}
use Rattle.cf_plain.specs.declared.finding.Finding.{Finding}
use Rattle.cf_plain.specs.declared.loaded.Live.{Live}
use Rattle.cf_plain.specs.Answered.{answer_on, no_ask}
use Rattle.cf_load.specs.Loading.{AsksSome}
use Rattle.cf_load.specs.Planned.{HasRead}
use Rattle.cf_load.specs.Priors.{HasFound, entries_before}
use Rattle.cf_load.proofs.Findings.{begins_behind}
use Rattle.cf_load.proofs.Tails.{asks_more, asks_round}
use Rattle.cf_load.proofs.Reading.{get_there, read_more}
use Rattle.cf_load.proofs.reader.ask_round.Goals as goal

pub loop-turn-init : goal.loop-turn-init
loop-turn-init g c = record { of = c.requires.of; asked = λ start had. had; loads = omega arith }

pub loop-turn-preserved : goal.loop-turn-preserved
loop-turn-preserved g c =
    let log = c.args.log.now in
    let plan = c.args.beside.now.plan.now in
    let prior = c.args.beside.now.prior.now in
    let before : List Entry = entries_before prior in
    let i = c.loop-turn.turn in
    let m = c.loop-turn.reader in
    let n = c.answer_behind.new.pass in
    let seen : List Entry = (n.view).seen in
    let question : Ask = c.index-question.result.now in
    let live : Live = record { batch = c.args.beside.now.batch; round = c.args.round; ask = c.index-place.result.now; answer = c.in_ok-answer.answer } in
    let items : c.push.new.self.items ≡ c.loop-turn.answers.items ++ live ∷ [] = search rules in
    let there : i < length plan.lives.items = search rules in
    let place : live.ask ≡ get_or plan.lives.items i live.ask = c.index-place.ensures in
    let low : live.ask < length plan.asks.items =
    subst (λ (k : ℕ). k < length plan.asks.items) (sym (place ∙ get_there plan.lives.items i live.ask 0 there)) (c.requires.plan.lives i 0 there) in
    let asked : question ≡ get_or plan.asks.items live.ask no_ask = c.index-question.ensures ∙ get_there plan.asks.items live.ask question no_ask low in
    let found : c.index.result.now ≡ finding_in log.shape (get_or plan.asks.items live.ask no_ask) (rows_in before) =
    c.index.ensures
    ∙ (ap (λ (fs : List Finding). get_or fs i c.index.result.now) (c.requires.prior.found c.requires.due)
    ∙ (get_or-map (λ (k : ℕ). finding_in log.shape (get_or plan.asks.items k no_ask) (rows_in before)) plan.lives.items i live.ask c.index.result.now there
    ∙ ap (λ (k : ℕ). finding_in log.shape (get_or plan.asks.items k no_ask) (rows_in before)) (sym place))) in
    let has : HasFound log.shape question before prior.base c.in_ok-copy.field-0 = record {
      count_is = c.requires.prior.base_is;
      finding_is = c.in_ok-copy.ensures ∙ (found ∙ ap (λ (a : Ask). finding_in log.shape a (rows_in before)) (sym asked));
    } in
    let made = c.in_ok-answer.ensures.asked in
    let answer : c.in_ok-answer.answer ≡ answer_on log.shape (before ++ seen) question = c.in_ok-answer.ensures.answer before has in
    let tail : live.answer.tail ≡ length (before ++ seen) = ap (λ (a : Answer). a.tail) answer in
    let body : live.answer.body ≡ eval log.shape (get_or plan.asks.items live.ask no_ask) (before ++ seen) = ap (λ (a : Answer). a.body) answer
    ∙ ap (λ (a : Ask). eval log.shape a (before ++ seen)) asked in
    record {
      of = search rules;
      loads = (let now = c.loop-turn.invariant.loads in let more = c.in_ok-answer.ensures.loads in omega (arith, now, more));
      asked = λ start had. let v = c.loop-turn.invariant.asked start had in record {
        asks = subst (λ (xs : List Live). AsksSome log.shape plan.asks.items plan.lives.items c.args.round (i + 1) c.args.beside.now.batch
            (before ++ (start.view).seen) (before ++ seen) xs) (sym items)
            (asks_more log.shape plan.asks.items plan.lives.items c.args.round i c.args.beside.now.batch (before ++ (start.view).seen)
            (before ++ (m.view).seen) (before ++ seen) c.loop-turn.answers.items live v.asks there
            (begins_behind before (m.view).seen seen made.longer) refl refl place tail body);
        read = subst (HasRead prior.base start n) (sym items)
            (read_more log.shape prior.base start m n c.loop-turn.answers.items live v.read made
            (tail ∙ (length-append before seen ∙ ap (λ (k : ℕ). k + length seen) (sym c.requires.prior.base_is))));
      };
    }

pub returns-clause-asked : goal.returns-clause-asked
returns-clause-asked g c start had =
    let log = c.args.log.now in
    let plan = c.args.beside.now.plan.now in
    let before : List Entry = entries_before c.args.beside.now.prior.now in
    let i = c.loop-turn.turn in
    let whole : i ≡ length plan.lives.items = search rules in
    let v = c.loop-turn.invariant.asked start had in
    record {
      asks = asks_round log.shape plan.asks.items plan.lives.items c.args.round c.args.beside.now.batch (before ++ (start.view).seen)
          (before ++ (c.loop-turn.reader.view).seen) c.loop-turn.answers.items
          (subst (λ k. AsksSome log.shape plan.asks.items plan.lives.items c.args.round k c.args.beside.now.batch (before ++ (start.view).seen)
          (before ++ (c.loop-turn.reader.view).seen) c.loop-turn.answers.items) whole v.asks);
      read = v.read;
    }
