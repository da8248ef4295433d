-- What is kept of a schema is one, and what is kept of a row fits it.
use Rattle.std.proofs.Common.{◌≡◌, ◌∙◌, ℕ, suc, ◌+◌, ◌<◌, Bool, true, false, List, [], ◌∷◌, length, refl, ap, sym, arith, inl, inr}
use Rattle.std.specs.List.{list_any, position_or_len}
use Rattle.std.proofs.lemmas.Bool.{cases_Bool}
use Rattle.cf_row.specs.declared.schema.Attr.{Attr}
use Rattle.cf_row.specs.declared.row.Value.{Value}
use Rattle.cf_row.specs.Row.{is_of_kind, values_fit}
use Rattle.cf_row.specs.Schema.{IsSchema, has_good_size, has_name_twice, is_named, is_time_stamp, ts_place}
use Rattle.cf_row.proofs.Truths.{both, lt_true}
use Rattle.cf_project.specs.Keeping.{is_kept, keep, new_place}
use Rattle.cf_project.proofs.Keeping.{keep_all, keep_any, keep_fewer, neither}

one_more : (n : ℕ) → 1 + n ≡ suc n
one_more n = omega arith

pub any_within : {X : Type 0} (p : X → Bool) (xs : List X) → list_any p xs ≡ true → position_or_len p xs < length xs
any_within p [] some = absurd (cc some)
any_within p (x ∷ xs) some = elim (cases_Bool (p x)) [
  | inl passes ↦ rw passes (omega arith)
  | inr fails ↦ let rest = any_within p xs (rw fails at some) in rw fails (omega (arith, rest))
]

-- the first item that passes, if it is kept, is the first of those that are kept
first_kept : {X : Type 0} (p : X → Bool) (marks : List Bool) (xs : List X) → list_any p xs ≡ true → is_kept marks (position_or_len p xs) ≡ true
    → (list_any p (keep marks xs) ≡ true) × (position_or_len p (keep marks xs) ≡ new_place marks (position_or_len p xs))
first_kept p [] xs some kept = absurd (cc kept)
first_kept p (mark ∷ marks) [] some kept = absurd (cc some)
first_kept p (true ∷ marks) (x ∷ xs) some kept = elim (cases_Bool (p x)) [
  | inl passes ↦ rw passes (refl, refl)
  | inr fails ↦
      let rest = first_kept p marks xs (rw fails at some) (rw (fails, one_more (position_or_len p xs)) at kept) in
      let next = rest.1 in
      rw (fails, one_more (position_or_len p xs)) (rest.0, omega (arith, next))
]
first_kept p (false ∷ marks) (x ∷ xs) some kept = elim (cases_Bool (p x)) [
  | inl passes ↦ absurd (cc (rw passes at kept))
  | inr fails ↦
      let rest = first_kept p marks xs (rw fails at some) (rw (fails, one_more (position_or_len p xs)) at kept) in
      rw (fails, one_more (position_or_len p xs)) rest
]

pub ts_first : (attrs : List Attr) → list_any is_time_stamp attrs ≡ true → ts_place attrs ≡ position_or_len is_time_stamp attrs
ts_first attrs some = rw (lt_true (position_or_len is_time_stamp attrs) (length attrs) (any_within is_time_stamp attrs some)) refl

apart_kept : (marks : List Bool) (attrs : List Attr) → has_name_twice attrs ≡ false → has_name_twice (keep marks attrs) ≡ false
apart_kept [] attrs apart = refl
apart_kept (mark ∷ marks) [] apart = refl
apart_kept (true ∷ marks) (attr ∷ attrs) apart =
    let parts = neither (list_any (is_named attr.name) attrs) (has_name_twice attrs) apart in
    rw (keep_any (is_named attr.name) marks attrs parts.0) (apart_kept marks attrs parts.1)
apart_kept (false ∷ marks) (attr ∷ attrs) apart =
    apart_kept marks attrs (neither (list_any (is_named attr.name) attrs) (has_name_twice attrs) apart).1

module _ (marks : List Bool) (attrs : List Attr) (schema : IsSchema attrs) (stamp : is_kept marks (ts_place attrs) ≡ true) where
  first : (list_any is_time_stamp (keep marks attrs) ≡ true) × (position_or_len is_time_stamp (keep marks attrs) ≡ new_place marks (position_or_len is_time_stamp attrs))
  first = first_kept is_time_stamp marks attrs schema.stamped (ap (is_kept marks) (sym (ts_first attrs schema.stamped)) ∙ stamp)

  pub stamp_kept : ts_place (keep marks attrs) ≡ new_place marks (ts_place attrs)
  stamp_kept = ts_first (keep marks attrs) first.0 ∙ (first.1 ∙ ap (new_place marks) (sym (ts_first attrs schema.stamped)))

  pub schema_kept : IsSchema (keep marks attrs)
  schema_kept = record {
    few = (let fewer = keep_fewer marks attrs in let few = schema.few in omega (arith, fewer, few));
    apart = apart_kept marks attrs schema.apart;
    stamped = first.0;
    sized = keep_all (λ attr. has_good_size attr.kind) marks attrs schema.sized;
  }

pub fit_kept : (marks : List Bool) (attrs : List Attr) (values : List Value) → values_fit attrs values ≡ true
    → values_fit (keep marks attrs) (keep marks values) ≡ true
fit_kept [] attrs values fit = refl
fit_kept (mark ∷ marks) [] [] fit = refl
fit_kept (mark ∷ marks) [] (value ∷ values) fit = absurd (cc fit)
fit_kept (mark ∷ marks) (attr ∷ attrs) [] fit = absurd (cc fit)
fit_kept (true ∷ marks) (attr ∷ attrs) (value ∷ values) fit =
    let parts = both (is_of_kind attr.kind value) (values_fit attrs values) fit in rw (parts.0) (fit_kept marks attrs values parts.1)
fit_kept (false ∷ marks) (attr ∷ attrs) (value ∷ values) fit =
    fit_kept marks attrs values (both (is_of_kind attr.kind value) (values_fit attrs values) fit).1

pub fit_length : (attrs : List Attr) (values : List Value) → values_fit attrs values ≡ true → length attrs ≡ length values
fit_length [] [] fit = refl
fit_length [] (value ∷ values) fit = absurd (cc fit)
fit_length (attr ∷ attrs) [] fit = absurd (cc fit)
fit_length (attr ∷ attrs) (value ∷ values) fit = ap suc (fit_length attrs values (both (is_of_kind attr.kind value) (values_fit attrs values) fit).1)
