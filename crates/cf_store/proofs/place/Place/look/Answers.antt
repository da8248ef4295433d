use Rattle.std.proofs.Common.{◌≡◌, ◌∙◌, ◌∷◌, ◌++◌, [], false, List, Option, Some, None, inr, ap, sym, subst}
use Rattle.std.specs.Option.{is_some}
use Rattle.rtrb.specs.declared.consumer.Consumer.{Consumer}
use Rattle.rtrb.specs.Ring.{known_items, received}
use Rattle.cf_table.specs.Values.{PassValue}
use Rattle.cf_store.specs.Homes.{HasLooked, MayCome, PlaceValue, came_by, known_by}
use Rattle.cf_store.proofs.Looked.{none_of}
use Rattle.cf_store.proofs.place.Place.look.Goals as goal
use Rattle.cf_store.proofs.place.Place.look.Goals.{in-Some-1, in-None-1}

came : {A P : Type 0} (m n : PlaceValue) (home : Option PassValue) (way : Option (Consumer PassValue A P)) (w w' : Consumer PassValue A P) (pass : PassValue)
    → record { home = home; came = came_by way; known = known_by way } ≡ m → is_some home ≡ false → way ≡ Some w → received w' ≡ received w ++ pass ∷ []
    → MayCome (received w) pass → n ≡ record { home = Some pass; came = received w'; known = known_items w' }
    → HasLooked m n
came m n home way w w' pass view none is popped may now =
    let same : m.came ≡ received w = ap (λ (p : PlaceValue). p.came) (sym view) ∙ ap came_by is in
    let known : n.known ≡ known_items w' = ap (λ (p : PlaceValue). p.known) now in
    inr (
      none_of m.home (ap (λ (p : PlaceValue). is_some p.home) (sym view) ∙ none),
      (
        pass,
        now ∙ (ap (λ (ps : List PassValue). record { home = Some pass; came = ps; known = known_items w' })
            (popped ∙ ap (λ (ps : List PassValue). ps ++ pass ∷ []) (sym same))
            ∙ ap (λ (ps : List PassValue). record { home = Some pass; came = m.came ++ pass ∷ []; known = ps }) (sym known)),
        subst (λ (ps : List PassValue). MayCome ps pass) (sym same) may,
      ),
    )

is_home : {A P : Type 0} (n : PlaceValue) (w' : Consumer PassValue A P) (pass : PassValue)
    → n ≡ record { home = Some pass; came = received w'; known = known_items w' } → n.home ≡ None → n.known ≡ []
is_home n w' pass now none = absurd (cc (sym none ∙ ap (λ (p : PlaceValue). p.home) now))

pub returns-in-Ok-clause-looked : goal.returns-in-Ok-clause-looked
returns-in-Ok-clause-looked c =
    let none = sym c.is_some.ensures ∙ c.if-is_some.false in
    let now : c.match-self-2.self ≡ record { home = Some c.in-Ok.pass; came = received c.pop.new.self; known = known_items c.pop.new.self } =
    elim c.match-self-2.branch [ in-Some-1 w ↦ w.self-is | in-None-1 w ↦ w.self-is ] in
    came c.args.self.now c.match-self-2.self c.self.inside.home c.self.inside.way c.in-Some.way c.pop.new.self c.in-Ok.pass c.self.view_is none
    c.in-Some.is c.in-Ok.ensures.ok.0 c.in-Ok.ensures.ok.2 now

pub returns-in-Ok-clause-empty : goal.returns-in-Ok-clause-empty
returns-in-Ok-clause-empty c =
    let now : c.match-self-2.self ≡ record { home = Some c.in-Ok.pass; came = received c.pop.new.self; known = known_items c.pop.new.self } =
    elim c.match-self-2.branch [ in-Some-1 w ↦ w.self-is | in-None-1 w ↦ w.self-is ] in
    is_home c.match-self-2.self c.pop.new.self c.in-Ok.pass now
