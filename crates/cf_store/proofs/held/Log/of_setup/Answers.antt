use Rattle.std.proofs.Common.{◌∙◌, Ok, ap, refl, subst, sym}
use Rattle.cf_shape.specs.Lanes.{ShapeValue}
use Rattle.cf_setup.specs.Setups.{IsSetup}
use Rattle.cf_setup.proofs.SetupReads.{setup_only}
use Rattle.cf_table.specs.Values.{PassValue}
use Rattle.cf_store.proofs.Homeward.{all_placed}
use Rattle.cf_store.proofs.Numbered.{all_numbered}
use Rattle.cf_store.proofs.Opened.{all_ready, all_new, is_shaped, new_log, root_new}
use Rattle.cf_store.proofs.Suited.{all_armed, all_suit}
use Rattle.cf_store.proofs.held.Log.of_setup.Goals as goal

pub of_parts-requires-clause-placed : goal.of_parts-requires-clause-placed
of_parts-requires-clause-placed c =
    all_placed c.in-Ok.log c.in-Ok-deal.passes.items c.in-Ok-places_of.places.items c.in-Ok-places_of.ensures
    (all_ready c.in-Ok.log c.in-Ok.root c.deal.new.root c.in-Ok-deal.passes.items c.in-Ok.ensures.home c.in-Ok-deal.ensures.dealt)

pub of_parts-requires-clause-numbered : goal.of_parts-requires-clause-numbered
of_parts-requires-clause-numbered c =
    let is = ap (λ (p : PassValue). p.view) c.in-Ok.ensures.root in
    let hs = c.in-Ok-deal.passes.items in
    all_numbered c.in-Ok.log hs c.in-Ok-places_of.places.items c.in-Ok-places_of.ensures (c.in-Ok-deal.ensures.all c.in-Ok.ensures.home).count
    (all_new c.in-Ok.log c.in-Ok.root c.deal.new.root hs is c.in-Ok-deal.ensures.dealt)

pub invariant_of-of_parts : goal.invariant_of-of_parts
invariant_of-of_parts c = record {
  suited = all_suit c.args.setup c.args.sizes.capacity c.args.sizes.writers c.args.sizes.nodes c.in-Ok.log.shape
      (subst IsSetup c.setup.view_is c.setup.invariant) (c.in-Ok.ensures.shape ∙ c.in_ok-shape.ensures.ok);
  armed = all_armed c.args.setup c.args.sizes.capacity c.args.sizes.writers c.args.sizes.nodes c.in-Ok.log.shape
      (subst IsSetup c.setup.view_is c.setup.invariant) (c.in-Ok.ensures.shape ∙ c.in_ok-shape.ensures.ok);
  stated = sym ((setup_only c.args.text.items).only (Ok c.args.setup) c.requires.stated);
  shaped = is_shaped c.args.setup c.args.sizes c.in-Ok.log.shape (c.in-Ok.ensures.shape ∙ c.in_ok-shape.ensures.ok);
}

pub returns-clause-ok : goal.returns-clause-ok
returns-clause-ok c =
    let is = ap (λ (p : PassValue). p.view) c.in-Ok.ensures.root in
    let shape = c.in-Ok.ensures.shape ∙ c.in_ok-shape.ensures.ok in
    let hs = c.in-Ok-deal.passes.items in
    new_log c.args.setup c.args.sizes _ c.deal.new.root hs c.in-Ok-places_of.places.items c.of_parts.result c.of_parts.ensures.ok refl shape
    (root_new c.in-Ok.log c.in-Ok.root c.deal.new.root hs is c.in-Ok-deal.ensures.dealt) c.in-Ok-places_of.ensures
    ((c.in-Ok-deal.ensures.all c.in-Ok.ensures.home).count ∙ ap (λ (s : ShapeValue). s.writers) shape)
    (all_new c.in-Ok.log c.in-Ok.root c.deal.new.root hs is c.in-Ok-deal.ensures.dealt)
