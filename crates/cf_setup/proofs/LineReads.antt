-- A line is read just as its rules say.
use Rattle.std.proofs.Common.{◌≡◌, ℕ, ◌≤◌, List, Bool, true, false, cond, Option, Some, None, Result, Ok, Err, refl, sym, ap, ◌∙◌, arith, subst}
use Rattle.std.specs.List.{list_all}
use Rattle.std.proofs.lemmas.Bool.{false≢true}
use Rattle.cf_filter.specs.declared.bytes.Class.TheVariants as classes
use Rattle.cf_filter.specs.Tokens.{passes}
use Rattle.cf_filter.specs.Grammar.{Only}
use Rattle.cf_setup.specs.declared.statement.Statement.{Statement}
use Rattle.cf_lines.specs.Lines.{word_at}
use Rattle.cf_setup.specs.Drafts.{DraftValue}
use Rattle.cf_setup.specs.Forms.{StatementFormValue, statement_named, form_at}
use Rattle.cf_setup.specs.Rules.{rules, IsBroken}
use Rattle.cf_setup.specs.SetupText.{is_in_place, Breaks, LineRead}
use Rattle.cf_setup.specs.SetupText.Breaks.{not_text, unknown, misplaced, misformed, ruled}
use Rattle.cf_setup.specs.Reading.{first_broken, added, coded_or, ruled as ruled_of, form_read, statement_read, line_read}
use Rattle.cf_setup.proofs.RuleLaws.{above, first_some, first_none, ascends}
use Rattle.cf_setup.proofs.AddsLaws.{never, adds_found, adds_only}

module _ (number : ℕ) (before : DraftValue) (line : List ℕ) where
  abbrev word : List ℕ
  word = (word_at line).0

  abbrev rest : List ℕ
  rest = (word_at line).1

  same_statement : (s t : Statement) → statement_named word ≡ Some s → statement_named word ≡ Some t → s ≡ t
  same_statement s t e f = let both : Some s ≡ Some t = sym e ∙ f in cc

  same_form : (s : Statement) (v w : StatementFormValue) → form_at s rest ≡ Some v → form_at s rest ≡ Some w → v ≡ w
  same_form s v w e f = let both : Some v ≡ Some w = sym e ∙ f in cc

  -- what a line breaks that is a text, of a known statement in its place and form
  only_rules : (s : Statement) (form : StatementFormValue) (code : ℕ) → list_all (passes classes.Text) line ≡ true → statement_named word ≡ Some s
      → is_in_place before s ≡ true → form_at s rest ≡ Some form → Breaks before line code → IsBroken before code (rules form)
  only_rules s form code text known place is (not_text c h) = absurd (false≢true (sym h ∙ text))
  only_rules s form code text known place is (unknown c h) = cc
  only_rules s form code text known place is (misplaced t c h p) = let same = same_statement s t known h in
      absurd (false≢true (sym p ∙ ap (is_in_place before) (sym same) ∙ place))
  only_rules s form code text known place is (misformed t c h f) = let same = same_statement t s h known in let none : form_at s rest ≡ None =
      ap (λ x. form_at x rest) (sym same) ∙ f in cc
  only_rules s form code text known place is (ruled t other h f b) =
      let same = same_statement t s h known in
      let some : form_at s rest ≡ Some other = ap (λ x. form_at x rest) (sym same) ∙ f in
      let one = same_form s other form some is in
      subst (λ (x : StatementFormValue). IsBroken before code (rules x)) one b

  ruled_holds : (s : Statement) (form : StatementFormValue) → list_all (passes classes.Text) line ≡ true → statement_named word ≡ Some s
      → is_in_place before s ≡ true → form_at s rest ≡ Some form → (o : Option ℕ) → first_broken before (rules form) ≡ o
      → (a : Option DraftValue) → added number before form ≡ a
      → LineRead number before line (coded_or o a)
  ruled_holds s form text known place is None o (Some new) a =
      record {
        lawful = λ code b. first_none before (rules form) code o (only_rules s form code text known place is b);
        statement = s;
        form = form;
        statement_is = known;
        form_is = is;
        adds = adds_found number before form new a;
      }
  ruled_holds s form text known place is None o None a = absurd (never number before form (λ code b. first_none before (rules form) code o b) a)
  ruled_holds s form text known place is (Some code) o x a =
      let first = first_some before 4 (rules form) code (ascends form) o in
      record { breaks = ruled s form known is first.0; least = λ other b. first.1 other (only_rules s form other text known place is b) }

  -- rules of codes from 3 on, where the line is a text of a statement in its place
  at_least_3 : (s : Statement) (code : ℕ) → list_all (passes classes.Text) line ≡ true → statement_named word ≡ Some s → is_in_place before s ≡ true
      → Breaks before line code → 3 ≤ code
  at_least_3 s code text known place (not_text c h) = absurd (false≢true (sym h ∙ text))
  at_least_3 s code text known place (unknown c h) = absurd (clash h)
    where
      clash : statement_named word ≡ None → ⊥
      clash h = cc
  at_least_3 s code text known place (misplaced t c h p) = let same = same_statement s t known h in
      absurd (false≢true (sym p ∙ ap (is_in_place before) (sym same) ∙ place))
  at_least_3 s code text known place (misformed t c h f) = omega (arith, c)
  at_least_3 s code text known place (ruled t form h f b) = let more = above before 4 code (rules form) (ascends form) b in omega (arith, more)

  at_least_2 : (code : ℕ) → list_all (passes classes.Text) line ≡ true → Breaks before line code → 2 ≤ code
  at_least_2 code text (not_text c h) = absurd (false≢true (sym h ∙ text))
  at_least_2 code text (unknown c h) = omega (arith, c)
  at_least_2 code text (misplaced t c h p) = omega (arith, c)
  at_least_2 code text (misformed t c h f) = omega (arith, c)
  at_least_2 code text (ruled t form h f b) = let more = above before 4 code (rules form) (ascends form) b in omega (arith, more)

  at_least_1 : (code : ℕ) → Breaks before line code → 1 ≤ code
  at_least_1 code (not_text c h) = omega (arith, c)
  at_least_1 code (unknown c h) = omega (arith, c)
  at_least_1 code (misplaced t c h p) = omega (arith, c)
  at_least_1 code (misformed t c h f) = omega (arith, c)
  at_least_1 code (ruled t form h f b) = let more = above before 4 code (rules form) (ascends form) b in omega (arith, more)

  form_holds : (s : Statement) → list_all (passes classes.Text) line ≡ true → statement_named word ≡ Some s → is_in_place before s ≡ true
      → (o : Option StatementFormValue) → form_at s rest ≡ o → LineRead number before line (form_read number before o)
  unfolding ruled_of
  form_holds s text known place None o = record { breaks = misformed s refl known o; least = λ other b. at_least_3 s other text known place b }
  form_holds s text known place (Some form) o = ruled_holds s form text known place o (first_broken before (rules form)) refl (added number before form) refl

  place_holds : (s : Statement) → list_all (passes classes.Text) line ≡ true → statement_named word ≡ Some s → (b : Bool) → is_in_place before s ≡ b
      → LineRead number before line (cond b (form_read number before (form_at s rest)) (Err 2))
  place_holds s text known true p = form_holds s text known p (form_at s rest) refl
  place_holds s text known false p = record { breaks = misplaced s refl known p; least = λ other b. at_least_2 other text b }

  known_holds : list_all (passes classes.Text) line ≡ true → (o : Option Statement) → statement_named word ≡ o
      → LineRead number before line (statement_read number before rest o)
  known_holds text None o = record { breaks = unknown refl o; least = λ other b. at_least_2 other text b }
  known_holds text (Some s) o = place_holds s text o (is_in_place before s) refl

  text_holds : (b : Bool) → list_all (passes classes.Text) line ≡ b
      → LineRead number before line (cond b (statement_read number before rest (statement_named word)) (Err 1))
  text_holds true b = known_holds b (statement_named word) refl
  text_holds false b = record { breaks = not_text refl b; least = λ other o. at_least_1 other o }

  line_same : (r s : Result DraftValue ℕ) → LineRead number before line r → LineRead number before line s → r ≡ s
  line_same (Ok x) (Ok y) h k =
      let same = same_statement h.statement k.statement h.statement_is k.statement_is in
      let some : form_at k.statement rest ≡ Some h.form = ap (λ t. form_at t rest) (sym same) ∙ h.form_is in
      let one = same_form k.statement h.form k.form some k.form_is in
      let first : added number before h.form ≡ Some x = adds_only number before h.form x h.adds in
      let second : added number before k.form ≡ Some y = adds_only number before k.form y k.adds in
      let both : Some x ≡ Some y = sym first ∙ ap (added number before) one ∙ second in
      ap Ok (some_one both)
    where
      some_one : Some x ≡ Some y → x ≡ y
      some_one e = cc
  line_same (Ok x) (Err code) h k = absurd (h.lawful code k.breaks)
  line_same (Err code) (Ok y) h k = absurd (k.lawful code h.breaks)
  line_same (Err code) (Err other) h k = let a = h.least other k.breaks in let b = k.least code h.breaks in let same : code ≡ other = omega (arith, a, b) in
      ap Err same

  -- each line has one outcome, and it is what is read
  pub line_only : Only (LineRead number before line) (line_read number before line)
  unfolding line_read
  line_only = let h = text_holds (list_all (passes classes.Text) line) refl in
      record { holds = h; only = λ other k. line_same other (line_read number before line) k h }
