use Rattle.std.proofs.Common.{◌≡◌, ◌≤◌, ◌+◌, ◌++◌, length, map, vec_capacity, All}
use Rattle.std.specs.Vec.Iter.{into_iter_items, into_iter_len}
use Rattle.cf_store.specs.Homes.{IsHome, home_at, some_pass}
use Rattle.cf_store.proofs.places.take_home.Given as goal

abbrev pub invariant-loop-place : goal.invariant-loop-place
invariant-loop-place l = record {
  home : All IsHome (into_iter_items l.place-iterator);
  room : length l.passes.items + length (into_iter_items l.place-iterator) ≤ vec_capacity l.passes;
  len : into_iter_len l.place-iterator ≡ length (into_iter_items l.place-iterator);
  taken : map some_pass l.passes.items ++ map home_at (into_iter_items l.place-iterator) ≡ map home_at l.fn.places.items;
}
