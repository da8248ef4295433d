-- The cut of hosts that cover their rows in turns.
use Rattle.std.proofs.Common.{◌≡◌, ◌≢◌, ℕ, zero, suc, ◌+◌, ◌-◌, ◌*◌, ◌/◌, ◌%◌, ◌^◌, ◌<◌, ◌≤◌, Bool, true, false, not, nat_lt, List, ◌∷◌, ◌++◌, length, map, replicate, fold, get_or, Some, inl, inr, refl, sym, ap, subst, ◌∙◌, arith}
use Rattle.std.specs.List.{All, list_all, flat_map, range_with_len}
use Rattle.std.proofs.Math.Nat.{min-le_left, min-le_right, le-min, div-add-mod, mod-lt, div-eq_of_lt}
use Rattle.std.proofs.lemmas.Nat.{div-mul-add}
use Rattle.std.proofs.lemmas.Bool.{cases_Bool, cases_eq, cases_lt, cases_order, lt-ltb, ltb-true}
use Rattle.std.proofs.lemmas.List.{get_or-set_same, get_or-set_other, get_or-replicate, ext_get_or, get_or_default, get_or_past}
use Rattle.std.proofs.lemmas.List.Sums.{fold-append, list_all-from_AllPass}
use Rattle.std.proofs.lemmas.List.FromFn.{get_or-map-range_with_len, length-map-range_with_len}
use Rattle.cf_snapshot.specs.Snapshots.{SnapValue, is_host, tail_of, is_frozen, is_lawful, after, at_start, state_after, cut_of}
use Rattle.cf_snapshot.specs.Plans.{rows_at, covered_after, turn_of_host, turns_round, turns_of_host, freeze_host, freezing, releasing, cover_left, events_of, in_cut, cut_by, PlansHaveCuts}
use Rattle.cf_snapshot.specs.declared.event.SnapEvent.{SnapEvent}
use Rattle.cf_snapshot.specs.declared.event.SnapEvent.TheVariants.{Cover, Begin, Freeze, Reply, Release, Thaw}
use Rattle.cf_snapshot.proofs.Lawful.{taken, passed_over}
use Rattle.cf_snapshot.proofs.Sound.{Sound, has_replied, sound_kept, sound_start, none_frozen, all_known}

-- what a host's covers do
record Grows (hosts g count : ℕ) (s t : SnapValue) : Type 0 where
  sound : Sound hosts t
  own : tail_of t g ≡ tail_of s g + count
  others : (h : ℕ) → h ≢ g → tail_of t h ≡ tail_of s h
  frozen : t.frozen ≡ s.frozen
  begun : t.has_begun ≡ s.has_begun
  released : t.is_released ≡ s.is_released

one_cover : (hosts g : ℕ) (s : SnapValue) → Sound hosts s → g < hosts → is_frozen s g ≡ false → tail_of s g < 2 ^ 20 → Grows hosts g 1 s (after s (Cover g))
one_cover hosts g s sound there free small =
    let lens = sound.lens.tails in
    let exists : is_host s g ≡ true = lt-ltb g (length s.tails) (omega (arith, there, lens)) in
    let low : nat_lt (tail_of s g) (2 ^ 20) ≡ true = lt-ltb (tail_of s g) (2 ^ 20) small in
    let lawful : is_lawful s (Cover g) ≡ true = rw (exists, free, low) refl in
    subst (Grows hosts g 1 s) (sym (taken s (Cover g) lawful)) (record {
      sound = sound_kept hosts s (Cover g) lawful sound;
      own = get_or-set_same s.tails g (tail_of s g + 1) 0 (ltb-true g (length s.tails) exists);
      others = λ h other. get_or-set_other s.tails g h (tail_of s g + 1) 0 other;
      frozen = refl;
      begun = refl;
      released = refl;
    })

covers : (hosts g count : ℕ) (s : SnapValue) → Sound hosts s → g < hosts → is_frozen s g ≡ false → tail_of s g + count ≤ 2 ^ 20
    → Grows hosts g count s (fold after s (replicate count (Cover g)))
covers hosts g zero s sound there free small =
    record { sound = sound; own = omega arith; others = λ h other. refl; frozen = refl; begun = refl; released = refl }
covers hosts g (suc count) s sound there free small =
    let one = one_cover hosts g s sound there free (omega (arith, small)) in
    let own = one.own in
    let rest = covers hosts g count (after s (Cover g)) one.sound there (ap (λ (f : List Bool). get_or f g false) one.frozen ∙ free)
    (omega (arith, small, own)) in
    let later = rest.own in
    record {
      sound = rest.sound;
      own = omega (arith, own, later);
      others = λ h other. rest.others h other ∙ one.others h other;
      frozen = rest.frozen ∙ one.frozen;
      begun = rest.begun ∙ one.begun;
      released = rest.released ∙ one.released;
    }

-- what each number of a range carries on, all of them do
pub fold_flat : (P : ℕ → SnapValue → Type 0) (f : ℕ → List SnapEvent) (a n b : ℕ) → a + n ≡ b
    → ((k : ℕ) (s : SnapValue) → a ≤ k → k < b → P k s → P (k + 1) (fold after s (f k))) → (s : SnapValue) → P a s
    → P b (fold after s (flat_map f (range_with_len a n)))
fold_flat P f a zero b end step s here = let e : a ≡ b = omega (arith, end) in subst (λ k. P k s) e here
fold_flat P f a (suc n) b end step s here =
    subst (P b) (sym (fold-append after s (f a) (flat_map f (range_with_len (a + 1) n))))
    (fold_flat P f (a + 1) n b (omega (arith, end)) (λ k t from to. step k t (omega (arith, from)) to) (fold after s (f a))
    (step a s (omega arith) (omega (arith, end)) here))

pub fold_map : (P : ℕ → SnapValue → Type 0) (f : ℕ → SnapEvent) (a n b : ℕ) → a + n ≡ b
    → ((k : ℕ) (s : SnapValue) → a ≤ k → k < b → P k s → P (k + 1) (after s (f k))) → (s : SnapValue) → P a s → P b (fold after s (map f (range_with_len a n)))
fold_map P f a zero b end step s here = let e : a ≡ b = omega (arith, end) in subst (λ k. P k s) e here
fold_map P f a (suc n) b end step s here =
    fold_map P f (a + 1) n b (omega (arith, end)) (λ k t from to. step k t (omega (arith, from)) to) (after s (f a))
    (step a s (omega arith) (omega (arith, end)) here)

-- whose turn it is, of turns that go round
module _ (hosts turns : ℕ) (some : 0 < hosts) where
  abbrev quotient : ℕ
  quotient = turns / hosts

  abbrev whose : ℕ
  whose = turns % hosts

  parts : hosts * quotient + whose ≡ turns
  parts = div-add-mod turns hosts

  below : whose < hosts
  below = mod-lt turns some

  at_quotient : (n q r : ℕ) → r < hosts → n ≡ q * hosts + r → n / hosts ≡ q
  at_quotient n q r low is = ap (λ m. m / hosts) is ∙ div-mul-add q hosts r low

  pub own_before : turns_of_host hosts turns whose ≡ quotient
  own_before = at_quotient (turns + (hosts - 1 - whose)) quotient (hosts - 1) (omega (arith, some)) (omega (arith, parts, below))

  own_after : turns_of_host hosts (turns + 1) whose ≡ quotient + 1
  own_after = at_quotient (turns + 1 + (hosts - 1 - whose)) (quotient + 1) 0 some (omega (arith, parts, below))

  other_same : (h : ℕ) → h < hosts → h ≢ whose → turns_of_host hosts (turns + 1) h ≡ turns_of_host hosts turns h
  other_same h there other = elim (cases_order h whose) [
    | inl same ↦ absurd (other same)
    | inr (inl less) ↦
        at_quotient (turns + 1 + (hosts - 1 - h)) (quotient + 1) (whose - h) (omega (arith, below)) (omega (arith, parts, below, less, there))
        ∙ sym (at_quotient (turns + (hosts - 1 - h)) (quotient + 1) (whose - h - 1) (omega (arith, below)) (omega (arith, parts, below, less, there)))
    | inr (inr more) ↦
        at_quotient (turns + 1 + (hosts - 1 - h)) quotient (hosts - (h - whose)) (omega (arith, more, there)) (omega (arith, parts, below, more, there))
        ∙ sym (at_quotient (turns + (hosts - 1 - h)) quotient (hosts - 1 - (h - whose)) (omega (arith, more, there)) (omega (arith, parts, below, more, there)))
  ]

none_had : (hosts h : ℕ) → h < hosts → turns_of_host hosts 0 h ≡ 0
none_had hosts h there = div-eq_of_lt (omega (arith, there))

module _ (turn : ℕ) (counts : List ℕ) (turns : ℕ) (some : 0 < length counts) (low : All (λ count. count ≤ 2 ^ 20) counts) where
  abbrev hosts : ℕ
  hosts = length counts

  abbrev covered : ℕ → ℕ → ℕ
  covered host n = covered_after turn counts host n

  covered_low : (host n : ℕ) → host < hosts → covered host n ≤ 2 ^ 20
  covered_low host n there =
      let few : rows_at counts host ≤ 2 ^ 20 = low host 0 there in
      let under = min-le_left (rows_at counts host) (turn * n) in
      omega (arith, few, under)

  covered_more : (host n : ℕ) → covered host n ≤ covered host (n + 1)
  covered_more host n =
      let under = min-le_right (rows_at counts host) (turn * n) in
      let wide : turn * n ≤ turn * (n + 1) = omega arith in
      le-min (min-le_left (rows_at counts host) (turn * n)) (omega (arith, under, wide))

  none_covered : (host : ℕ) → covered host 0 ≡ 0
  none_covered host = let under = min-le_right (rows_at counts host) (turn * 0) in omega (arith, under)

  -- a host's turn
  record Turned (g n : ℕ) (s t : SnapValue) : Type 0 where
    sound : Sound hosts t
    own : tail_of t g ≡ covered g (n + 1)
    others : (h : ℕ) → h ≢ g → tail_of t h ≡ tail_of s h
    frozen : t.frozen ≡ s.frozen
    begun : t.has_begun ≡ s.has_begun
    released : t.is_released ≡ s.is_released

  takes_turn : (g n : ℕ) (s : SnapValue) → Sound hosts s → g < hosts → is_frozen s g ≡ false → tail_of s g ≡ covered g n
      → Turned g n s (fold after s (turn_of_host turn counts g n))
  takes_turn g n s sound there free had =
      let more = covered_more g n in
      let few = covered_low g (n + 1) there in
      let grown = covers hosts g (covered g (n + 1) - covered g n) s sound there free (omega (arith, had, more, few)) in
      let own = grown.own in
      record {
        sound = grown.sound;
        own = omega (arith, own, had, more);
        others = grown.others;
        frozen = grown.frozen;
        begun = grown.begun;
        released = grown.released;
      }

  -- so many turns went round
  pub record Going (n : ℕ) (s : SnapValue) : Type 0 where
    pub sound : Sound hosts s
    pub tails : (h : ℕ) → h < hosts → tail_of s h ≡ covered h (turns_of_host hosts n h)
    pub free : (h : ℕ) → is_frozen s h ≡ false
    pub begun : s.has_begun ≡ false
    pub released : s.is_released ≡ false

  going_start : Going 0 (at_start hosts)
  going_start = record {
    sound = sound_start hosts;
    tails = λ h there. get_or-replicate hosts h 0 0 there ∙ sym (ap (covered h) (none_had hosts h there) ∙ none_covered h);
    free = none_frozen hosts;
    begun = refl;
    released = refl;
  }

  going_on : (n : ℕ) (s : SnapValue) → Going n s → Going (n + 1) (fold after s (turn_of_host turn counts (n % hosts) (n / hosts)))
  going_on n s g =
      let who : ℕ = n % hosts in
      let there : who < hosts = below hosts n some in
      let turned = takes_turn who (n / hosts) s g.sound there (g.free who) (g.tails who there ∙ ap (covered who) (own_before hosts n some)) in
      record {
        sound = turned.sound;
        tails = λ h in_range. elim (cases_eq h who) [
          | inl same ↦ rw same (turned.own ∙ sym (ap (covered who) (own_after hosts n some)))
          | inr other ↦ turned.others h other ∙ g.tails h in_range ∙ sym (ap (covered h) (other_same hosts n some h in_range other))
        ];
        free = λ h. ap (λ (f : List Bool). get_or f h false) turned.frozen ∙ g.free h;
        begun = turned.begun ∙ g.begun;
        released = turned.released ∙ g.released;
      }

  pub all_round : Going turns (fold after (at_start hosts) (turns_round turn counts turns))
  all_round = fold_flat Going (λ j. turn_of_host turn counts (j % hosts) (j / hosts)) 0 turns turns (omega arith) (λ k s from to g. going_on k s g)
      (at_start hosts) going_start

  abbrev had : ℕ → ℕ
  had host = turns_of_host hosts turns host

  -- the first n hosts are frozen
  pub record Freezing (n : ℕ) (s : SnapValue) : Type 0 where
    pub sound : Sound hosts s
    pub fixed : (h : ℕ) → h < hosts → h < n → tail_of s h ≡ covered h (had h + h)
    pub going : (h : ℕ) → h < hosts → n ≤ h → tail_of s h ≡ covered h (had h + n)
    pub frozen : (h : ℕ) → h < n → is_frozen s h ≡ true
    pub free : (h : ℕ) → n ≤ h → is_frozen s h ≡ false
    pub begun : s.has_begun ≡ true
    pub released : s.is_released ≡ false

  pub freezing_start : (s : SnapValue) → Going turns s → Freezing 0 (after s Begin)
  freezing_start s g =
      let lawful : is_lawful s Begin ≡ true = ap not g.begun in
      subst (Freezing 0) (sym (taken s Begin lawful)) (record {
        sound = sound_kept hosts s Begin lawful g.sound;
        fixed = λ h there less. absurd (omega (arith, less));
        going = λ h there le. let e : had h + 0 ≡ had h = omega arith in rw e (g.tails h there);
        frozen = λ h less. absurd (omega (arith, less));
        free = λ h le. g.free h;
        begun = refl;
        released = g.released;
      })

  -- host n is frozen too, and those above it up to m had their turn
  pub record Passing (n m : ℕ) (s : SnapValue) : Type 0 where
    pub sound : Sound hosts s
    pub fixed : (h : ℕ) → h < hosts → h ≤ n → tail_of s h ≡ covered h (had h + h)
    pub went : (h : ℕ) → h < hosts → n < h → h < m → tail_of s h ≡ covered h (had h + (n + 1))
    pub going : (h : ℕ) → h < hosts → n < h → m ≤ h → tail_of s h ≡ covered h (had h + n)
    pub frozen : (h : ℕ) → h < n + 1 → is_frozen s h ≡ true
    pub free : (h : ℕ) → n + 1 ≤ h → is_frozen s h ≡ false
    pub begun : s.has_begun ≡ true
    pub released : s.is_released ≡ false

  pub passing_start : (n : ℕ) (s : SnapValue) → n < hosts → Freezing n s → Passing n (n + 1) (after s (Freeze n))
  passing_start n s there f =
      let lens = f.sound.lens.tails in
      let wide = f.sound.lens.frozen in
      let exists : is_host s n ≡ true = lt-ltb n (length s.tails) (omega (arith, there, lens)) in
      let lawful : is_lawful s (Freeze n) ≡ true = rw (exists, f.begun, f.released, f.free n (omega arith)) refl in
      let room : n < length s.frozen = omega (arith, there, wide) in
      subst (Passing n (n + 1)) (sym (taken s (Freeze n) lawful)) (record {
        sound = sound_kept hosts s (Freeze n) lawful f.sound;
        fixed = λ h in_range le. elim (cases_lt h n) [
          | inl less ↦ f.fixed h in_range less
          | inr ge ↦ let e : h ≡ n = omega (arith, le, ge) in rw e (f.going n there (omega arith))
        ];
        went = λ h in_range more less. absurd (omega (arith, more, less));
        going = λ h in_range more le. f.going h in_range (omega (arith, more));
        frozen = λ h less. elim (cases_eq h n) [
          | inl same ↦ rw same (get_or-set_same s.frozen n true false room)
          | inr other ↦ get_or-set_other s.frozen n h true false other ∙ f.frozen h (omega (arith, less, other))
        ];
        free = λ h le. get_or-set_other s.frozen n h true false (λ same. let e : h ≡ n = same in absurd (omega (arith, le, e))) ∙ f.free h (omega (arith, le));
        begun = f.begun;
        released = f.released;
      })

  pub passing_on : (n m : ℕ) (s : SnapValue) → n + 1 ≤ m → m < hosts → Passing n m s → Passing n (m + 1) (fold after s (turn_of_host turn counts m (had m + n)))
  passing_on n m s above there p =
      let turned = takes_turn m (had m + n) s p.sound there (p.free m above) (p.going m there (omega (arith, above)) (omega arith)) in
      record {
        sound = turned.sound;
        fixed = λ h in_range le. turned.others h (λ same. let e : h ≡ m = same in absurd (omega (arith, above, le, e))) ∙ p.fixed h in_range le;
        went = λ h in_range more less. elim (cases_eq h m) [
          | inl same ↦ let e : had m + n + 1 ≡ had m + (n + 1) = omega arith in rw same (turned.own ∙ ap (covered m) e)
          | inr other ↦ turned.others h other ∙ p.went h in_range more (omega (arith, less, other))
        ];
        going = λ h in_range more le. turned.others h (λ same. let e : h ≡ m = same in absurd (omega (arith, le, e)))
            ∙ p.going h in_range more (omega (arith, le));
        frozen = λ h less. ap (λ (f : List Bool). get_or f h false) turned.frozen ∙ p.frozen h less;
        free = λ h le. ap (λ (f : List Bool). get_or f h false) turned.frozen ∙ p.free h le;
        begun = turned.begun ∙ p.begun;
        released = turned.released ∙ p.released;
      }

  passed_all : (n m : ℕ) (s : SnapValue) → hosts ≤ m → Passing n m s → Freezing (n + 1) s
  passed_all n m s all p = record {
    sound = p.sound;
    fixed = λ h in_range less. p.fixed h in_range (omega (arith, less));
    going = λ h in_range le. p.went h in_range (omega (arith, le)) (omega (arith, in_range, all));
    frozen = p.frozen;
    free = p.free;
    begun = p.begun;
    released = p.released;
  }

  pub freezing_on : (n : ℕ) (s : SnapValue) → n < hosts → Freezing n s → Freezing (n + 1) (fold after s (freeze_host turn counts turns n))
  freezing_on n s there f =
      let begin = passing_start n s there f in
      let end = fold_flat (Passing n) (λ above. turn_of_host turn counts above (had above + n)) (n + 1) (hosts - 1 - n) hosts (omega (arith, there))
      (λ k t from to p. passing_on n k t from to p) (after s (Freeze n)) begin in
      passed_all n hosts (fold after s (freeze_host turn counts turns n)) (omega arith) end

  all_frozen : (s : SnapValue) → Going turns s → Freezing hosts (fold after (after s Begin) (flat_map (freeze_host turn counts turns) (range_with_len 0 hosts)))
  all_frozen s g =
      fold_flat Freezing (freeze_host turn counts turns) 0 hosts hosts (omega arith) (λ k t from to f. freezing_on k t to f) (after s Begin)
      (freezing_start s g)

  -- the first n hosts have replied
  pub record Replying (n : ℕ) (s : SnapValue) : Type 0 where
    pub sound : Sound hosts s
    pub tails : (h : ℕ) → h < hosts → tail_of s h ≡ in_cut turn counts turns h
    pub frozen : (h : ℕ) → h < hosts → is_frozen s h ≡ true
    pub replied : (h : ℕ) → h < n → has_replied s h ≡ true
    pub begun : s.has_begun ≡ true
    pub released : s.is_released ≡ false

  pub replying_start : (s : SnapValue) → Freezing hosts s → Replying 0 s
  replying_start s f = record {
    sound = f.sound;
    tails = λ h there. f.fixed h there there;
    frozen = f.frozen;
    replied = λ h less. absurd (omega (arith, less));
    begun = f.begun;
    released = f.released;
  }

  pub replying_on : (n : ℕ) (s : SnapValue) → n < hosts → Replying n s → Replying (n + 1) (after s (Reply n))
  replying_on n s there r =
      let lens = r.sound.lens.tails in
      let wide = r.sound.lens.replied in
      let exists : is_host s n ≡ true = lt-ltb n (length s.tails) (omega (arith, there, lens)) in
      let lawful : is_lawful s (Reply n) ≡ true = rw (exists, r.begun, r.released, r.frozen n there) refl in
      let room : n < length s.replied = omega (arith, there, wide) in
      subst (Replying (n + 1)) (sym (taken s (Reply n) lawful)) (record {
        sound = sound_kept hosts s (Reply n) lawful r.sound;
        tails = r.tails;
        frozen = r.frozen;
        replied = λ h less. elim (cases_eq h n) [
          | inl same ↦ rw same (get_or-set_same s.replied n true false room)
          | inr other ↦ get_or-set_other s.replied n h true false other ∙ r.replied h (omega (arith, less, other))
        ];
        begun = r.begun;
        released = r.released;
      })

  -- released with that cut
  record Released (s : SnapValue) : Type 0 where
    released : s.is_released ≡ true
    replies : s.replies ≡ cut_by turn counts turns

  is_cut : (xs : List ℕ) → length xs ≡ hosts → ((h : ℕ) → h < hosts → get_or xs h 0 ≡ in_cut turn counts turns h) → xs ≡ cut_by turn counts turns
  is_cut xs sized each = ext_get_or 0 xs (cut_by turn counts turns) (sized ∙ sym (length-map-range_with_len (in_cut turn counts turns) 0 hosts))
      (λ h less. let there : h < hosts = omega (arith, less, sized) in each h there
      ∙ sym (get_or-map-range_with_len (in_cut turn counts turns) 0 hosts h h 0 there (omega arith)))

  pub release_lawful : (s : SnapValue) → Replying hosts s → is_lawful s Release ≡ true
  release_lawful s r =
      let sized = r.sound.lens.replied in
      let all : list_all (λ replied. replied) s.replied ≡ true =
      list_all-from_AllPass (λ replied. replied) s.replied
      (λ k d less. get_or_default s.replied k d false less ∙ r.replied k (omega (arith, less, sized))) in
      rw (r.begun, r.released, all) refl

  releases : (s : SnapValue) → Replying hosts s → Released (after s Release)
  releases s r =
      let lawful = release_lawful s r in
      let known = all_known hosts s lawful r.sound in
      subst Released (sym (taken s Release lawful)) (record { released = refl; replies = known.1 ∙ is_cut s.tails r.sound.lens.tails r.tails })

  thaws : (n : ℕ) (s : SnapValue) → Released s → Released (after s (Thaw n))
  thaws n s r = elim (cases_Bool (is_lawful s (Thaw n))) [
    | inl lawful ↦ subst Released (sym (taken s (Thaw n) lawful)) (record { released = r.released; replies = r.replies })
    | inr unlawful ↦ subst Released (sym (passed_over s (Thaw n) unlawful)) r
  ]

  one_stays : (g : ℕ) (s : SnapValue) → Released s → Released (after s (Cover g))
  one_stays g s r = elim (cases_Bool (is_lawful s (Cover g))) [
    | inl lawful ↦ subst Released (sym (taken s (Cover g) lawful)) (record { released = r.released; replies = r.replies })
    | inr unlawful ↦ subst Released (sym (passed_over s (Cover g) unlawful)) r
  ]

  covers_stay : (g count : ℕ) (s : SnapValue) → Released s → Released (fold after s (replicate count (Cover g)))
  covers_stay g zero s r = r
  covers_stay g (suc count) s r = covers_stay g count (after s (Cover g)) (one_stays g s r)

  has_cut : (s : SnapValue) → Released s → cut_of s ≡ Some (cut_by turn counts turns)
  has_cut s r = rw (r.released, r.replies) refl

  whole : Released (state_after hosts (events_of turn counts turns))
  whole =
      let first : SnapValue = fold after (at_start hosts) (turns_round turn counts turns) in
      let second : SnapValue = fold after (after first Begin) (flat_map (freeze_host turn counts turns) (range_with_len 0 hosts)) in
      let third : SnapValue = fold after second (map Reply (range_with_len 0 hosts)) in
      let replied =
      fold_map Replying Reply 0 hosts hosts (omega arith) (λ k t from to r. replying_on k t to r) second
      (replying_start second (all_frozen first all_round)) in
      let freed = fold_map (λ n. Released) Thaw 0 hosts hosts (omega arith) (λ k t from to r. thaws k t r) (after third Release) (releases third replied) in
      let end : List SnapEvent = Release ∷ map Thaw (range_with_len 0 hosts) in
      let replies : List SnapEvent = map Reply (range_with_len 0 hosts) in
      let rest : List SnapEvent = flat_map (cover_left turn counts turns) (range_with_len 0 hosts) in
      let fourth : SnapValue = fold after (after third Release) (map Thaw (range_with_len 0 hosts)) in
      let all = fold_flat (λ n. Released) (cover_left turn counts turns) 0 hosts hosts (omega arith)
      (λ k t from to r. covers_stay k (rows_at counts k - in_cut turn counts turns k) t r) fourth freed in
      let round = fold-append after (at_start hosts) (turns_round turn counts turns) (freezing turn counts turns ++ (releasing hosts ++ rest)) in
      let frozen = fold-append after first (freezing turn counts turns) (releasing hosts ++ rest) in
      let free = fold-append after second (releasing hosts) rest in
      let replied_then : fold after second (releasing hosts) ≡ fourth = fold-append after second replies end in
      subst Released (sym (round ∙ frozen ∙ free ∙ ap (λ (s : SnapValue). fold after s rest) replied_then)) all

pub plans_have_cuts : PlansHaveCuts
plans_have_cuts turn counts turns some low =
    has_cut turn counts turns some low (state_after (length counts) (events_of turn counts turns)) (whole turn counts turns some low)

-- a cut has no more of a host than the host has
pub cut_within : (turn : ℕ) (counts : List ℕ) (turns host : ℕ) → get_or (cut_by turn counts turns) host 0 ≤ rows_at counts host
cut_within turn counts turns host = elim (cases_lt host (length counts)) [
  | inl there ↦
      let is = get_or-map-range_with_len (in_cut turn counts turns) 0 (length counts) host host 0 there (omega arith) in
      let low = min-le_left (rows_at counts host) (turn * (turns_of_host (length counts) turns host + host)) in
      omega (arith, is, low)
  | inr past ↦
      let long = length-map-range_with_len (in_cut turn counts turns) 0 (length counts) in
      let none = get_or_past (cut_by turn counts turns) host 0 (omega (arith, long, past)) in
      omega (arith, none)
]
