use Rattle.std.proofs.Common.{◌∙◌, ap, refl, subst}
use Rattle.std.specs.Arc.{arc_value}
use Rattle.cf_store.specs.Homes.{HaveLooked}
use Rattle.cf_store.specs.Closes.{IsEnd}
use Rattle.cf_store.specs.Opens.{IsLogWith}
use Rattle.cf_store.specs.declared.held.Log.{Log}
use Rattle.cf_store.specs.declared.held.Reader.{Reader}
use Rattle.cf_store.proofs.Closed.{came_back, ended}
use Rattle.cf_store.proofs.Taken.{keeps_all}
use Rattle.cf_store.proofs.held.Log.close.Goals as goal

pub returns-then-not-is_free : goal.returns-then-not-is_free
returns-then-not-is_free c =
    let l = c.is_free.new.self in
    let same = subst (λ (m : Log). IsLogWith l.places.items m l) c.deref_mut.ensures.value c.is_free.ensures.same in
    let looked = subst (λ (m : Log). HaveLooked m.places.items l.places.items) c.deref_mut.ensures.value c.is_free.ensures.looked in
    (same, keeps_all c.args.log.value.places.items l.places.items looked, c.is_free.ensures.taken c.if-not-is_free.true)

pub returns-in_default : goal.returns-in_default
returns-in_default c =
    let l = c.is_free.new.self in
    let same = subst (λ (m : Log). IsLogWith l.places.items m l) c.deref_mut.ensures.value c.is_free.ensures.same in
    let looked = subst (λ (m : Log). HaveLooked m.places.items l.places.items) c.deref_mut.ensures.value c.is_free.ensures.looked in
    (same, keeps_all c.args.log.value.places.items l.places.items looked, c.is_free.ensures.free c.if-not-is_free.false)

pub returns-in_default-next_reader : goal.returns-in_default-next_reader
returns-in_default-next_reader c =
    let l = c.is_free.new.self in
    let same = subst (λ (m : Log). IsLogWith l.places.items m l) c.deref_mut.ensures.value c.is_free.ensures.same in
    let looked = subst (λ (m : Log). HaveLooked m.places.items l.places.items) c.deref_mut.ensures.value c.is_free.ensures.looked in
    let after = subst (λ (m : Log). IsLogWith m.places.items m c.next_reader.new.self) c.deref_mut-2.ensures.value c.in_default-next_reader.ensures in
    came_back c.args.log.value l c.next_reader.new.self same looked (c.is_free.ensures.free c.if-not-is_free.false) after

pub returns : goal.returns
returns c =
    let l = c.is_free.new.self in
    let same = subst (λ (m : Log). IsLogWith l.places.items m l) c.deref_mut.ensures.value c.is_free.ensures.same in
    let looked = subst (λ (m : Log). HaveLooked m.places.items l.places.items) c.deref_mut.ensures.value c.is_free.ensures.looked in
    let m = c.deref_mut-2.ensures.value in
    let now = c.deref_mut-3.ensures.value in
    let forked = c.in-Ok-next_reader.ensures in
    let after = subst (λ (m : Log). IsLogWith m.places.items m c.next_reader.new.self) m forked.0 in
    let end = subst (λ (n : Log). IsEnd n c.into_last.result) c.into_inner.ensures c.into_last.ensures.end in
    ended c.args.log.value l c.next_reader.new.self _ c.into_last.result same looked after end
    (ap (λ (r : Reader). arc_value r.of) now ∙ (forked.1 ∙ ap (λ (m : Log). arc_value m.of) m)) refl
    (ap (λ (r : Reader). r.words.items) now ∙ forked.3)
