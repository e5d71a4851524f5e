-- Terms that rules take from nested domains, and places: the range of an atom, the dummy of its members, the cell of an atom, and one more
-- place behind others.
use Rattle.std.proofs.Common.{◌≡◌, refl, ap, ℕ, Bool, true, false, if◌then◌else◌, List, [], ◌∷◌, ◌++◌, length, Option, Some}
use Rattle.ess_semantics.specs.Values.{Text}
use Rattle.ess_semantics.specs.Names.{Names, look}
use Rattle.ess_semantics.specs.Meaning.{is_bool_dom}
use Rattle.ess_semantics.specs.Trees.{Ex, Exs, name_ex, cell_ex, Dom}
use Rattle.ess_semantics.proofs.Texts.{same_text-itself}
use Rattle.ess_rules_laws.specs.SetListings.{put_last}
use Rattle.ess_repr_declare_laws.specs.SizeTerms.{dummy_ex}
use Rattle.ess_flat_laws.specs.Flat.{sum}
use Rattle.ess_nested_laws.proofs.NestedForms.{WrittenAtom, written_truths, written_numbers}
use Rattle.ess_seen_laws.specs.Seen.{scalars, kind_of, Bound, over_slots, Places, no_place, at_slot, Seen, number, named, figure, flag, two, Indices, no_index, one_index, Range, truths, numbers}

-- Members of an atom are scalars.
pub atom-kind : {d : Dom} → WrittenAtom d → kind_of d ≡ scalars (is_bool_dom d)
atom-kind written_truths = refl
atom-kind written_numbers = refl

-- A name is bound as its last binding says.
pub look-here : (r : Names Bound) (x : Text) (b : Bound) → look ((x, b) ∷ r) x ≡ Some b
look-here r x b = ap (λ c. if c then Some b else look r x) (same_text-itself x)

module _ (cells : Text → Option (Bool × List ℕ)) where
  -- Truth values, or written numbers, are a range.
  pub atom-range : {r : Names Bound} {d : Dom} → WrittenAtom d → Range cells r d (is_bool_dom d)
  atom-range written_truths = truths
  atom-range written_numbers = numbers number number

  -- The dummy of an atom is a number.
  pub dummy-seen : {r : Names Bound} {d : Dom} → WrittenAtom d → Seen cells r (dummy_ex d) false
  dummy-seen written_truths = number
  dummy-seen written_numbers = two sum number number

  -- The cell at places of a table is a figure or a flag.
  pub cell-seen : {r : Names Bound} {n : Text} {js : Exs} {ks : List ℕ} (b : Bool) → cells n ≡ Some (b, ks) → Places cells r js ks →
      Indices cells r js (length ks) → Seen cells r (cell_ex b n js) b
  cell-seen true q p i = flag q i
  cell-seen false q p i = figure q p

  -- One more slot behind places.
  pub places-last : (t : Names Bound) (x : Text) (k : ℕ) {js : Exs} {ks : List ℕ} → look t x ≡ Some (over_slots k) →
      Places cells t js ks → Places cells t (put_last js (name_ex x)) (ks ++ (k ∷ []))
  places-last t x k q no_place = at_slot q no_place
  places-last t x k q (at_slot h p) = at_slot h (places-last t x k q p)

  -- One more index behind places.
  pub indices-last : {t : Names Bound} {m : Bool} (k : ℕ) (a : Ex) {js : Exs} {ks : List ℕ} → Seen cells t a m → Places cells t js ks →
      Indices cells t (put_last js a) (length (ks ++ (k ∷ [])))
  indices-last k a f no_place = one_index f no_index
  indices-last k a f (at_slot h p) = one_index (named h refl) (indices-last k a f p)
