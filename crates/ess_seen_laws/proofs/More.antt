-- A tree over views is one among more names too.
use Rattle.std.proofs.Common.{refl, ℕ, Bool, List, length, Option}
use Rattle.ess_semantics.specs.Values.{Text}
use Rattle.ess_semantics.specs.Names.{Names}
use Rattle.ess_semantics.specs.Trees.{Ex, Exs, Gens, Dom}
use Rattle.ess_rules_laws.specs.SpliceRules.{append_gens}
use Rattle.ess_seen_laws.specs.Seen.{Kind, Bound, over_a_range, over_slots, from_a_set, Places, no_place, at_slot, SetTerm, view, drawn, combined, Seen, number, truth, named, counted, figure, flag, atom, one, two, chosen, folded, of_items, size, within, set_within, compared, Listed, last_item, item_before, Indices, no_index, one_index, Going, at_end, through, through_slots, among, where_holds, Range, truths, numbers}
use Rattle.ess_seen_laws.specs.Putting.{Within, GensWithin}
use Rattle.ess_seen_laws.proofs.Lookups.{within-more}

module _ (cells : Text → Option (Bool × List ℕ)) where
  -- Places among more names.
  pub places-more : {r t : Names Bound} {es : Exs} {ks : List ℕ} → Within r t → Places cells r es ks → Places cells t es ks
  places-more w no_place = no_place
  places-more w (at_slot {a = a} {k = k} q p) = at_slot (w a (over_slots k) q) (places-more w p)

  -- Sets among more names.
  pub set-more : {r t : Names Bound} {e : Ex} {k : Kind} → Within r t → SetTerm cells r e k → SetTerm cells t e k
  set-more w (view n f k p) = view n f k (places-more w p)
  set-more w (drawn {a = a} q) = drawn (w a _ q)
  set-more w (combined c u v) = combined c (set-more w u) (set-more w v)

  mutual
    -- Trees among more names.
    pub seen-more : {r t : Names Bound} {e : Ex} {m : Bool} → Within r t → Seen cells r e m → Seen cells t e m
    seen-more w number = number
    seen-more w truth = truth
    seen-more w (named {a = a} {b = b} q k) = named (w a b q) k
    seen-more w (counted c) = counted c
    seen-more w (figure q p) = figure q (places-more w p)
    seen-more w (flag q i) = flag q (indices-more w i)
    seen-more w (atom k p) = atom k (places-more w p)
    seen-more w (one o f) = one o (seen-more w f)
    seen-more w (two o f g) = two o (seen-more w f) (seen-more w g)
    seen-more w (chosen f) = chosen (seen-more w f)
    seen-more w (folded o g f) = let k = going-more w g in folded o k.going (seen-more k.within f)
    seen-more w (of_items o l) = of_items o (listed-more w l)
    seen-more w (size s) = size (set-more w s)
    seen-more w (within f s) = within (seen-more w f) (set-more w s)
    seen-more w (set_within u v) = set_within (set-more w u) (set-more w v)
    seen-more w (compared c u v) = compared c (set-more w u) (set-more w v)

    -- Items among more names.
    pub listed-more : {r t : Names Bound} {es : Exs} {m : Bool} → Within r t → Listed cells r es m → Listed cells t es m
    listed-more w (last_item f) = last_item (seen-more w f)
    listed-more w (item_before f l) = item_before (seen-more w f) (listed-more w l)

    indices-more : {r t : Names Bound} {es : Exs} {k : ℕ} → Within r t → Indices cells r es k → Indices cells t es k
    indices-more w no_index = no_index
    indices-more w (one_index f i) = one_index (seen-more w f) (indices-more w i)

    -- Generators among more names.
    pub going-more : {r t u : Names Bound} {gs : Gens} → Within r t → Going cells r gs u → GensWithin cells u t gs
    going-more {t = t} w at_end = record { behind = t; going = at_end; within = w }
    going-more {r} {t} w (through {m = m} {a = a} n g) =
        let k = going-more (within-more r t a (over_a_range m) w) g in
        record { behind = k.behind; going = through (range-more w n) k.going; within = k.within }
    going-more {r} {t} w (through_slots {k = j} {a = a} c g) =
        let k = going-more (within-more r t a (over_slots j) w) g in
        record { behind = k.behind; going = through_slots c k.going; within = k.within }
    going-more {r} {t} w (among {k = j} {a = a} s g) =
        let k = going-more (within-more r t a (from_a_set j) w) g in
        record { behind = k.behind; going = among (set-more w s) k.going; within = k.within }
    going-more w (where_holds f g) =
        let k = going-more w g in record { behind = k.behind; going = where_holds (seen-more w f) k.going; within = k.within }

    range-more : {r t : Names Bound} {d : Dom} {m : Bool} → Within r t → Range cells r d m → Range cells t d m
    range-more w truths = truths
    range-more w (numbers f g) = numbers (seen-more w f) (seen-more w g)

  -- Places serve as indices of a cell.
  pub places-indices : {r : Names Bound} {es : Exs} {ks : List ℕ} → Places cells r es ks → Indices cells r es (length ks)
  places-indices no_place = no_index
  places-indices (at_slot q p) = one_index (named q refl) (places-indices p)

  -- Generators behind generators.
  pub going-appended : {r t u : Names Bound} {gs hs : Gens} → Going cells r gs t → Going cells t hs u → Going cells r (append_gens gs hs) u
  going-appended at_end k = k
  going-appended (through n g) k = through n (going-appended g k)
  going-appended (through_slots c g) k = through_slots c (going-appended g k)
  going-appended (among s g) k = among s (going-appended g k)
  going-appended (where_holds f g) k = where_holds f (going-appended g k)
