-- What the bytes at the front show.
use Rattle.std.proofs.Common.{◌≡◌, inl, inr, ℕ, ◌==◌, ◌<◌, ◌≤◌, ◌+◌, ◌*◌, List, [], ◌++◌, length, take, Result, Ok, Err, refl, sym, ap, subst, ◌∙◌, arith, length-append, length-take}
use Rattle.std.proofs.lemmas.Bool.{cases_lt, cases_Bool}
use Rattle.std.proofs.lemmas.List.{take-append-le}
use Rattle.cf_pcap.specs.declared.scope.Scope.{Scope}
use Rattle.cf_pcap.specs.declared.form.Order.{Order}
use Rattle.cf_pcap.specs.Capture.{FrameValue}
use Rattle.cf_pcap.specs.declared.limit.Length.{Length}
use Rattle.cf_pcap.specs.Limits.{count_on, num_of}
use Rattle.cf_pcap.proofs.Limits.{count_none}
use Rattle.cf_pcap.specs.Format.{Found, Wants, Bad, Takes}
use Rattle.cf_pcap.specs.Streams.{IsStepper}
use Rattle.cf_pcapng.specs.declared.fault.Flaw.{Flaw}
use Rattle.cf_pcapng.specs.declared.fault.Flaw.TheVariants.{BadLength}
use Rattle.cf_pcapng.specs.declared.fault.NgFault.{NgFault}
use Rattle.cf_pcapng.specs.declared.head.BlockKind.{BlockKind}
use Rattle.cf_pcapng.specs.declared.head.BlockKind.TheVariants.{SectionHeader, InterfaceDescription, EnhancedPacket, SimplePacket, Other}
use Rattle.cf_pcapng.specs.declared.head.BlockHead.{BlockHead}
use Rattle.cf_pcapng.specs.declared.head.BlockHead.TheVariants.{Short, Flawed, Stands}
use Rattle.cf_pcapng.specs.declared.interfaces.Interface.{Interface}
use Rattle.cf_pcapng.specs.declared.content.Content.{Content}
use Rattle.cf_pcapng.specs.declared.content.Content.TheVariants.{NewSection, NewInterface, Captures, Nothing}
use Rattle.cf_pcapng.specs.Blocks.{least, head_of, content_of, stated, last_total}
use Rattle.cf_pcapng.specs.File.{State, fault_of, frames_of, after, block_found, found_at, step, pcapng}
use Rattle.cf_pcapng.proofs.Heads.{below, not_below, head_short, head_stays, Standing, standing, at_least, least_12, seen_size}

abbrev pub Shown : Type 0
Shown = Found State FrameValue NgFault

pub wants_not_bad : (fault : NgFault) → ◌≡◌ {A = Shown} Wants (Bad fault) → ⊥
wants_not_bad fault h = cc

pub wants_not_takes : (n : ℕ) (items : List FrameValue) (t : State) → ◌≡◌ {A = Shown} Wants (Takes n items t) → ⊥
wants_not_takes n items t h = cc

pub bad_not_takes : (fault : NgFault) (n : ℕ) (items : List FrameValue) (t : State) → ◌≡◌ {A = Shown} (Bad fault) (Takes n items t) → ⊥
bad_not_takes fault n items t h = cc

pub step_at : (scope : Scope) (s : State) (bytes : List ℕ) (head : BlockHead) → head_of s.order bytes ≡ head → step scope s bytes ≡ found_at scope s bytes head
unfolding step
step_at scope s bytes head h = ap (λ (x : BlockHead). found_at scope s bytes x) h

-- What more bytes leave.

found_stays : (scope : Scope) (s : State) (xs ys : List ℕ) (head : BlockHead) → (found_at scope s xs head ≡ Wants → ⊥)
    → found_at scope s (xs ++ ys) head ≡ found_at scope s xs head
found_stays scope s xs ys Short seen = refl
found_stays scope s xs ys (Flawed flaw) seen = refl
found_stays scope s xs ys (Stands order kind total) seen = elim (cases_lt (length xs) total) [
  | inl short ↦ absurd (seen (rw (below (length xs) total short) refl))
  | inr whole ↦
      let len : length (xs ++ ys) ≡ length xs + length ys = length-append xs ys in
      rw (not_below (length xs) total whole, not_below (length (xs ++ ys)) total (omega (arith, whole, len)), take-append-le total xs ys whole) refl
]

pub step_stays : (scope : Scope) (s : State) (xs ys : List ℕ) → (step scope s xs ≡ Wants → ⊥) → step scope s (xs ++ ys) ≡ step scope s xs
step_stays scope s xs ys seen =
    let same : head_of s.order (xs ++ ys) ≡ head_of s.order xs = head_stays s.order xs ys (λ h. seen (step_at scope s xs Short h)) in
    step_at scope s (xs ++ ys) (head_of s.order xs) same
    ∙ found_stays scope s xs ys (head_of s.order xs) (λ h. seen (step_at scope s xs (head_of s.order xs) refl ∙ h))
    ∙ sym (step_at scope s xs (head_of s.order xs) refl)

bad_stays : (scope : Scope) (s : State) (bytes more : List ℕ) (fault : NgFault) → step scope s bytes ≡ Bad fault → step scope s (bytes ++ more) ≡ Bad fault
bad_stays scope s bytes more fault h = step_stays scope s bytes more (λ w. wants_not_bad fault (sym w ∙ h)) ∙ h

takes_stays : (scope : Scope) (s : State) (bytes more : List ℕ) (n : ℕ) (items : List FrameValue) (t : State) → step scope s bytes ≡ Takes n items t
    → step scope s (bytes ++ more) ≡ Takes n items t
takes_stays scope s bytes more n items t h = step_stays scope s bytes more (λ w. wants_not_takes n items t (sym w ∙ h)) ∙ h

-- What a block that is taken is.

pub record Taken (scope : Scope) (s : State) (bytes : List ℕ) (n : ℕ) (items : List FrameValue) (t : State) : Type 0 where
  pub order : Order
  pub kind : BlockKind
  pub stands : Standing s.order bytes order kind n
  pub whole : n ≤ length bytes
  pub content : Content
  pub states : content_of scope s.interfaces order kind (take n bytes) ≡ Ok content
  pub items_are : items ≡ frames_of (num_of scope.length s.count) content (take n bytes)
  pub after_is : t ≡ after scope.length s content

pub taken_size : (n m : ℕ) (a b : List FrameValue) (t u : State) → ◌≡◌ {A = Shown} (Takes n a t) (Takes m b u) → n ≡ m
taken_size n m a b t u h = cc

pub taken_items : (n m : ℕ) (a b : List FrameValue) (t u : State) → ◌≡◌ {A = Shown} (Takes n a t) (Takes m b u) → a ≡ b
taken_items n m a b t u h = cc

pub taken_state : (n m : ℕ) (a b : List FrameValue) (t u : State) → ◌≡◌ {A = Shown} (Takes n a t) (Takes m b u) → t ≡ u
taken_state n m a b t u h = cc

pub length_front : (n : ℕ) (bytes : List ℕ) → n ≤ length bytes → length (take n bytes) ≡ n
length_front n bytes h = omega (arith, h, length-take n bytes)

taken_of_content : (scope : Scope) (s : State) (bytes : List ℕ) (order : Order) (kind : BlockKind) (total n : ℕ) (items : List FrameValue) (t : State)
    → Standing s.order bytes order kind total → total ≤ length bytes → (found : Result Content Flaw)
    → content_of scope s.interfaces order kind (take total bytes) ≡ found → block_found scope.length s (take total bytes) found ≡ Takes n items t
    → Taken scope s bytes n items t
taken_of_content scope s bytes order kind total n items t stands whole (Err flaw) is h = absurd (bad_not_takes (fault_of s.count flaw) n items t h)
taken_of_content scope s bytes order kind total n items t stands whole (Ok content) is h =
    let block : List ℕ = take total bytes in
    let size : length block ≡ n = taken_size (length block) n (frames_of (num_of scope.length s.count) content block) items (after scope.length s content) t h in
    let total_is : total ≡ n = sym (length_front total bytes whole) ∙ size in record {
      order = order;
      kind = kind;
      stands = subst (λ (m : ℕ). Standing s.order bytes order kind m) total_is stands;
      whole = subst (λ (m : ℕ). m ≤ length bytes) total_is whole;
      content = content;
      states = subst (λ (m : ℕ). content_of scope s.interfaces order kind (take m bytes) ≡ Ok content) total_is is;
      items_are = sym (taken_items (length block) n (frames_of (num_of scope.length s.count) content block) items (after scope.length s content) t h)
          ∙ ap (λ m. frames_of (num_of scope.length s.count) content (take m bytes)) total_is;
      after_is = sym (taken_state (length block) n (frames_of (num_of scope.length s.count) content block) items (after scope.length s content) t h);
    }

pub found_short : (scope : Scope) (s : State) (bytes : List ℕ) (order : Order) (kind : BlockKind) (total : ℕ) → length bytes < total
    → found_at scope s bytes (Stands order kind total) ≡ Wants
found_short scope s bytes order kind total h = rw (below (length bytes) total h) refl

pub found_whole : (scope : Scope) (s : State) (bytes : List ℕ) (order : Order) (kind : BlockKind) (total : ℕ) → total ≤ length bytes
    → found_at scope s bytes (Stands order kind total) ≡ block_found scope.length s (take total bytes)
    (content_of scope s.interfaces order kind (take total bytes))
found_whole scope s bytes order kind total h = rw (not_below (length bytes) total h) refl

taken_at : (scope : Scope) (s : State) (bytes : List ℕ) (n : ℕ) (items : List FrameValue) (t : State) (head : BlockHead) → head_of s.order bytes ≡ head
    → found_at scope s bytes head ≡ Takes n items t → Taken scope s bytes n items t
taken_at scope s bytes n items t Short is h = absurd (wants_not_takes n items t h)
taken_at scope s bytes n items t (Flawed flaw) is h = absurd (bad_not_takes (fault_of s.count flaw) n items t h)
taken_at scope s bytes n items t (Stands order kind total) is h = elim (cases_lt (length bytes) total) [
  | inl short ↦ absurd (wants_not_takes n items t (sym (found_short scope s bytes order kind total short) ∙ h))
  | inr whole ↦ taken_of_content scope s bytes order kind total n items t (standing s.order bytes order kind total is) whole
      (content_of scope s.interfaces order kind (take total bytes)) refl (sym (found_whole scope s bytes order kind total whole) ∙ h)
]

pub taken : (scope : Scope) (s : State) (bytes : List ℕ) (n : ℕ) (items : List FrameValue) (t : State) → step scope s bytes ≡ Takes n items t
    → Taken scope s bytes n items t
taken scope s bytes n items t h = taken_at scope s bytes n items t (head_of s.order bytes) refl (sym (step_at scope s bytes (head_of s.order bytes) refl) ∙ h)

frames_few : (k : ℕ) (content : Content) (block : List ℕ) → length (frames_of k content block) ≤ 1
frames_few k (NewSection order) block = omega arith
frames_few k (NewInterface interface) block = omega arith
frames_few k (Captures packet) block = omega arith
frames_few k Nothing block = omega arith

counts : (l : Length) (s : State) (content : Content) (block : List ℕ)
    → (after l s content).count ≡ count_on l s.count (length (frames_of (num_of l s.count) content block))
counts l s (NewSection order) block = sym (count_none l s.count)
counts l s (NewInterface interface) block = sym (count_none l s.count)
counts l s (Captures packet) block = refl
counts l s Nothing block = sym (count_none l s.count)

pub taken_least : (scope : Scope) (s : State) (bytes : List ℕ) (n : ℕ) (items : List FrameValue) (t : State) → Taken scope s bytes n items t → 12 ≤ n
taken_least scope s bytes n items t it =
    let most : 12 ≤ least it.kind = least_12 it.kind in
    let size : least it.kind ≤ n = at_least it.kind n it.stands.lawful in
    omega (arith, most, size)

-- A block that gives a frame has 16 bytes at least.

content_least : (scope : Scope) (interfaces : List Interface) (order : Order) (kind : BlockKind) (block : List ℕ) (k : ℕ) (content : Content)
    → stated scope interfaces order kind block ≡ Ok content → 16 * length (frames_of k content block) ≤ least kind
content_least scope interfaces order SectionHeader block k content h = let few = frames_few k content block in omega (arith, few)
content_least scope interfaces order InterfaceDescription block k content h = let few = frames_few k content block in omega (arith, few)
content_least scope interfaces order EnhancedPacket block k content h = let few = frames_few k content block in omega (arith, few)
content_least scope interfaces order SimplePacket block k content h = let few = frames_few k content block in omega (arith, few)
content_least scope interfaces order Other block k content h = let is : content ≡ Nothing = cc h in rw is (omega arith)

content_stated : (scope : Scope) (interfaces : List Interface) (order : Order) (kind : BlockKind) (block : List ℕ) (content : Content)
    → content_of scope interfaces order kind block ≡ Ok content → stated scope interfaces order kind block ≡ Ok content
unfolding content_of
content_stated scope interfaces order kind block content h = elim (cases_Bool (last_total order block == length block)) [
  | inl same ↦ sym (rw same refl) ∙ h
  | inr other ↦ absurd (no (sym (rw other refl) ∙ h))
] where
  no : ◌≡◌ {A = Result Content Flaw} (Err BadLength) (Ok content) → ⊥
  no e = cc

taken_few : (scope : Scope) (s : State) (bytes : List ℕ) (n : ℕ) (items : List FrameValue) (t : State) → Taken scope s bytes n items t → 16 * length items ≤ n
taken_few scope s bytes n items t it =
    let most : 16 * length (frames_of (num_of scope.length s.count) it.content (take n bytes)) ≤ least it.kind =
    content_least scope s.interfaces it.order it.kind (take n bytes) (num_of scope.length s.count) it.content
    (content_stated scope s.interfaces it.order it.kind (take n bytes) it.content it.states) in
    let size : least it.kind ≤ n = at_least it.kind n it.stands.lawful in
    let same : length items ≡ length (frames_of (num_of scope.length s.count) it.content (take n bytes)) = ap length it.items_are in
    omega (arith, most, size, same)

-- a block that bytes only begin is longer
taken_total : (scope : Scope) (s : State) (bytes : List ℕ) (order : Order) (kind : BlockKind) (total n : ℕ) (items : List FrameValue) (t : State)
    → found_at scope s bytes (Stands order kind total) ≡ Takes n items t → total ≡ n
taken_total scope s bytes order kind total n items t h = elim (cases_lt (length bytes) total) [
  | inl short ↦ absurd (wants_not_takes n items t (sym (found_short scope s bytes order kind total short) ∙ h))
  | inr whole ↦ by_content whole (content_of scope s.interfaces order kind (take total bytes))
      (sym (found_whole scope s bytes order kind total whole) ∙ h)
] where
  by_content : total ≤ length bytes → (found : Result Content Flaw) → block_found scope.length s (take total bytes) found ≡ Takes n items t → total ≡ n
  by_content whole (Err flaw) e = absurd (bad_not_takes (fault_of s.count flaw) n items t e)
  by_content whole (Ok content) e =
      sym (length_front total bytes whole)
      ∙ taken_size (length (take total bytes)) n (frames_of (num_of scope.length s.count) content (take total bytes)) items (after scope.length s content) t e

pub block_not_wants : (scope : Scope) (s : State) (block : List ℕ) (found : Result Content Flaw) → block_found scope.length s block found ≡ Wants → ⊥
block_not_wants scope s block (Err flaw) h = wants_not_bad (fault_of s.count flaw) (sym h)
block_not_wants scope s block (Ok content) h = wants_not_takes (length block) (frames_of (num_of scope.length s.count) content block) (after scope.length s content) (sym h)

late_at : (scope : Scope) (s : State) (bytes more : List ℕ) (n : ℕ) (items : List FrameValue) (t : State) (head : BlockHead) → head_of s.order bytes ≡ head
    → step scope s bytes ≡ Wants → step scope s (bytes ++ more) ≡ Takes n items t → n ≤ length bytes → ⊥
late_at scope s bytes more n items t Short is wants takes whole =
    let some : 12 ≤ n = taken_least scope s (bytes ++ more) n items t (taken scope s (bytes ++ more) n items t takes) in
    let short : length bytes < 12 = seen_size s.order bytes is in
    omega (arith, some, whole, short)
late_at scope s bytes more n items t (Flawed flaw) is wants takes whole =
    wants_not_bad (fault_of s.count flaw) (sym wants ∙ step_at scope s bytes (Flawed flaw) is)
late_at scope s bytes more n items t (Stands order kind total) is wants takes whole = elim (cases_lt (length bytes) total) [
  | inl short ↦
      let same : head_of s.order (bytes ++ more) ≡ Stands order kind total =
      head_stays s.order bytes more (λ h. short_not_stands order kind total (sym h ∙ is)) ∙ is in
      let one : total ≡ n =
      taken_total scope s (bytes ++ more) order kind total n items t (sym (step_at scope s (bytes ++ more) (Stands order kind total) same) ∙ takes) in
      omega (arith, short, whole, one)
  | inr long ↦ block_not_wants scope s (take total bytes) (content_of scope s.interfaces order kind (take total bytes))
      (sym (found_whole scope s bytes order kind total long) ∙ (sym (step_at scope s bytes (Stands order kind total) is) ∙ wants))
] where
  short_not_stands : (order : Order) (kind : BlockKind) (total : ℕ) → Short ≡ Stands order kind total → ⊥
  short_not_stands order kind total h = cc

late : (scope : Scope) (s : State) (bytes more : List ℕ) (n : ℕ) (items : List FrameValue) (t : State) → step scope s bytes ≡ Wants
    → step scope s (bytes ++ more) ≡ Takes n items t → length bytes < n
late scope s bytes more n items t wants takes = elim (cases_lt (length bytes) n) [
  | inl short ↦ short
  | inr whole ↦ absurd (late_at scope s bytes more n items t (head_of s.order bytes) refl wants takes whole)
]

step_nothing : (scope : Scope) (s : State) → step scope s [] ≡ Wants
step_nothing scope s = step_at scope s [] Short (head_short s.order [] (omega arith))

-- pcapng can be read as a stream
pub stepper : (scope : Scope) → IsStepper (pcapng scope)
stepper scope = record {
  none = refl;
  nothing = step_nothing scope;
  bad_stays = bad_stays scope;
  takes_stays = takes_stays scope;
  size = λ s bytes n items t h. let it = taken scope s bytes n items t h in let some : 12 ≤ n = taken_least scope s bytes n items t it in
      (omega (arith, some), it.whole);
  late = late scope;
  one = λ s bytes n items t h.
      let it = taken scope s bytes n items t h in
      let one : length (frames_of (num_of scope.length s.count) it.content (take n bytes)) ≤ 1 = frames_few (num_of scope.length s.count) it.content (take n bytes) in
      let same : length items ≡ length (frames_of (num_of scope.length s.count) it.content (take n bytes)) = ap length it.items_are in
      omega (arith, one, same);
  few = λ s bytes n items t h. taken_few scope s bytes n items t (taken scope s bytes n items t h);
  counts = λ s bytes n items t h.
      let it = taken scope s bytes n items t h in
      ap (λ (x : State). x.count) it.after_is
      ∙ counts scope.length s it.content (take n bytes)
      ∙ ap (λ (xs : List FrameValue). count_on scope.length s.count (length xs)) (sym it.items_are);
}
