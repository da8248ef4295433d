-- Calls by handles are those of what they lead to.
use Rattle.std.proofs.Common.{◌≡◌, ◌∙◌, ℕ, List, Result, Option, Some, None, Err, refl, sym, subst}
use Rattle.std.specs.Prelude.{IfNone, OnSome}
use Rattle.cf_store.specs.declared.held.Reader.{Reader}
use Rattle.cf_store.specs.declared.held.Writer.{Writer}
use Rattle.cf_store.specs.declared.shown.Framed.{Framed}
use Rattle.cf_store.specs.declared.shown.Head.{Head}
use Rattle.cf_store.specs.declared.refusals.LineRefusal.{LineRefusal}
use Rattle.cf_store.specs.Asks.{AsksLine}
use Rattle.cf_handles.specs.declared.code.Code.{Code}
use Rattle.cf_handles.specs.declared.code.Code.TheVariants.{Nothing}
use Rattle.cf_handles.specs.Codes.{code_number}
use Rattle.cf_handles.specs.Calls.{AppendsBatch, BatchBy, ByHandle, IsCoded, LineBy, Tells, coded, number_of, told_or}

-- what a handle leads to after its value was lent, and after nothing was
pub if_lent : {A P : Type 0} (r : Option A) (x : A) → r ≡ Some x → OnSome r P → P
if_lent {A} {P} r x is so = subst (λ (o : Option A). OnSome o P) is so

pub if_not_lent : {A P : Type 0} (r : Option A) → r ≡ None → IfNone r P → P
if_not_lent {A} {P} r is so = subst (λ (o : Option A). IfNone o P) is so

pub by_handle : {T A : Type 0} (Does : T → T → Result A Code → Type 0) (a b : Option T) (m n : T) (r : Result A Code) → a ≡ Some m → b ≡ Some n → Does m n r
    → ByHandle Does a b r
by_handle {T} Does a b m n r is put did = subst (λ (x : Option T). ByHandle Does x b r) (sym is) (n, put, did)

pub nothing_by : {T A : Type 0} (Does : T → T → Result A Code → Type 0) (a b : Option T) → a ≡ None → b ≡ None → ByHandle Does a b (Err Nothing)
nothing_by {T} Does a b is none = subst (λ (x : Option T). ByHandle Does x b (Err Nothing)) (sym is) (none, refl)

-- what is told by a handle that leads to nothing, and by one that leads to something
pub nothing_told : {T A : Type 0} (Does : T → T → Result A Code → Type 0) (a b : Option T) (out : A) (number : ℕ) → a ≡ None → b ≡ None
    → number ≡ code_number Nothing
    → Tells Does a b out out number
nothing_told Does a b out number is none same = (Err Nothing, nothing_by Does a b is none, same, refl)

pub told : {T A : Type 0} (Does : T → T → Result A Code → Type 0) (a b : Option T) (m n : T) (r : Result A Code) (out out' : A) (number : ℕ) → a ≡ Some m
    → b ≡ Some n → Does m n r → number ≡ number_of r → out' ≡ told_or r out
    → Tells Does a b out out' number
told Does a b m n r out out' number is put did same out_is = (r, by_handle Does a b m n r is put did, same, out_is)

-- the same of a refusal's code
pub told_coded : {T A E : Type 0} (code : E → Code) (Is : T → T → Result A E → Type 0) (a b : Option T) (m n : T) (made : Result A E) (out out' : A) (number : ℕ)
    → a ≡ Some m → b ≡ Some n → Is m n made → number ≡ number_of (coded code made) → out' ≡ told_or (coded code made) out
    → Tells (λ m n. IsCoded code (Is m n)) a b out out' number
told_coded code Is a b m n made out out' number is put did same out_is =
    told (λ m n. IsCoded code (Is m n)) a b m n (coded code made) out out' number is put (made, did, refl) same out_is

pub batch_by : (buffer : List ℕ) (frames : List Framed) (before after : List ℕ) (done : ℕ) (code : Code) (a b : Option Writer) (m n : Writer) → a ≡ Some m
    → b ≡ Some n
    → AppendsBatch buffer frames before after done code m n
    → BatchBy buffer frames before after done code a b
batch_by buffer frames before after done code a b m n is put did =
    subst (λ (x : Option Writer). BatchBy buffer frames before after done code x b) (sym is) (n, put, did)

pub no_batch : (buffer : List ℕ) (frames : List Framed) (before : List ℕ) (a b : Option Writer) → a ≡ None → b ≡ None
    → BatchBy buffer frames before before 0 Nothing a b
no_batch buffer frames before a b is none =
    subst (λ (x : Option Writer). BatchBy buffer frames before before 0 Nothing x b) (sym is) (none, refl, refl, refl)

pub line_by : (line : List ℕ) (a b : Option Reader) (m n : Reader) (made : Result Head LineRefusal) → a ≡ Some m → b ≡ Some n → AsksLine line m n made
    → LineBy line a b (Some made)
line_by line a b m n made is put did = subst (λ (x : Option Reader). LineBy line x b (Some made)) (sym is) (n, put, (made, refl, did))

pub no_line : (line : List ℕ) (a b : Option Reader) → a ≡ None → b ≡ None → LineBy line a b None
no_line line a b is none = subst (λ (x : Option Reader). LineBy line x b None) (sym is) (none, refl)

-- what leads to something does not lead to nothing
pub filled : {A P : Type 0} (a : Option A) (x : A) → a ≡ Some x → a ≡ None → P
filled a x is none = absurd (cc (sym is ∙ none))
