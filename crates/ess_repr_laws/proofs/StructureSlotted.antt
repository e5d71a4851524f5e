-- Slots of a view over one child: what of its structure constraint stands at each slot.
use Rattle.std.proofs.Common.{◌≡◌, refl, ap, ◌∙◌, subst, ℕ, zero, suc, ◌+◌, ◌≤◌, ◌<◌, Bool, false, List, [], ◌∷◌, ◌++◌, map, length, ℤ, pos, Some, arith, ◌⊎◌, inl, inr}
use Rattle.std.proofs.Math.Nat.{eq-or-lt_of_le}
use Rattle.ess_semantics.specs.Values.{Text, number, truth}
use Rattle.ess_semantics.specs.Order.{same_text}
use Rattle.ess_semantics.specs.Numbers.{run_from, one_to}
use Rattle.ess_semantics.specs.Trees.{Ex, Repr, Exs, name_ex, Dom}
use Rattle.ess_semantics.specs.Domains.{Domain, lists_of}
use Rattle.ess_semantics.specs.Tables.{Tables, code}
use Rattle.ess_semantics.specs.Cells.{behind, cells_of}
use Rattle.ess_semantics.specs.Representations.{width}
use Rattle.ess_semantics.specs.Declarations.{under, declarations_below}
use Rattle.ess_semantics.specs.CanonicalTest.{canonical}
use Rattle.ess_semantics.specs.Meaning.{Env, meaning}
use Rattle.ess_repr_laws.specs.StructureParts.{Terms, add_ex, upto, on_axes}
use Rattle.ess_repr_laws.specs.Structure.{shapes, structure}
use Rattle.ess_repr_laws.specs.StructureMeaning.{Bound, M, Placed, axes_members, on_members, slot_numbers}
use Rattle.ess_repr_laws.proofs.CanonicalPlaces.{AllOf}
use Rattle.ess_repr_laws.proofs.StructureFits.{Fit}
use Rattle.ess_repr_laws.proofs.SlotsUsed.{as_place, slots-are}
use Rattle.ess_repr_laws.proofs.StructureOf.{StructureOf, child-placed, child-fits, child-there-each}
use Rattle.ess_repr_laws.proofs.StructurePlaces.{placed-long}
use Rattle.ess_repr_laws.proofs.StructureRows.{Steady, There, codes, steady-name}

-- Numbers are their own numbers.
pub number-codes : (ks : List ℤ) → map code (map number ks) ≡ ks
number-codes [] = refl
number-codes (k ∷ ks) = ap (λ l. k ∷ l) (number-codes ks)

in-run : (P : List ℤ → Type 0) (a n : ℕ) → AllOf (map as_place (run_from a n)) P → (k : ℕ) → a ≤ k → k < a + n → P (pos k ∷ [])
in-run P a zero h k x y = absurd (omega arith)
in-run P a (suc n) h k x y = here (eq-or-lt_of_le x) (λ l. in-run P (suc a) n h.1 k l (omega arith))
  where
    here : (a ≡ k) ⊎ (a < k) → (suc a ≤ k → P (pos k ∷ [])) → P (pos k ∷ [])
    here (inl e) f = subst (λ j. P (pos j ∷ [])) e h.0
    here (inr l) f = f l

-- What holds at each of n places does at each slot.
pub at-slot : (n : ℕ) (P : List ℤ → Type 0) → AllOf (lists_of (one_to n ∷ [])) P → (k : ℕ) → 1 ≤ k → k ≤ n → P (pos k ∷ [])
at-slot n P h k x y = in-run P 1 n (subst (λ l. AllOf l P) (slots-are (one_to n)) h) k x (omega arith)

module _ (env0 : Env) (q : ℕ → Text) (q-apart : (m l : ℕ) → l < m → same_text (q m) (q l) ≡ false) where
  -- The numbers of slots as an axis.
  pub slots-same : (S : ℕ) → codes env0 q q-apart (slot_numbers S) ≡ one_to S ∷ []
  slots-same S = ap (λ l. l ∷ []) (number-codes (one_to S))

module _ (env0 : Env) (q : ℕ → Text) (q-apart : (m l : ℕ) → l < m → same_text (q m) (q l) ≡ false) (terms : Terms)
    (r : Repr) (d : Dom) (e : Domain) (child : StructureOf env0 q q-apart terms r d e) (size : Ex) (S : ℕ) where
  module _ (out : Bool) (ns : List Text) (ts : Tables) (i : List ℤ) (p : Placed env0 q q-apart (map (on_axes (upto size ∷ [])) (shapes q terms r d ns)) (on_members (slot_numbers S) (axes_members r e)) ts)
      (c : Fit (under (one_to S ∷ []) (declarations_below out r e) ++ []) (behind i (cells_of ts))) where
    -- At each slot the cells are there.
    pub slot-there : (k : ℕ) → 1 ≤ k → k ≤ S → There env0 q q-apart (shapes q terms r d ns) (axes_members r e) ts (i ++ (pos k ∷ []))
    slot-there = at-slot S (λ js. There env0 q q-apart (shapes q terms r d ns) (axes_members r e) ts (i ++ js))
        (child-there-each env0 q q-apart terms r d e child (upto size ∷ []) (slot_numbers S) (one_to S ∷ []) (slots-same env0 q q-apart S) refl out ns ts i p c)

    -- They fit.
    pub slot-fits : (k : ℕ) → 1 ≤ k → k ≤ S → Fit (declarations_below out r e) (behind (i ++ (pos k ∷ [])) (cells_of ts))
    slot-fits = at-slot S (λ js. Fit (declarations_below out r e) (behind (i ++ js) (cells_of ts)))
        (child-fits env0 q q-apart terms r d e child (upto size ∷ []) (slot_numbers S) (one_to S ∷ []) (slots-same env0 q q-apart S) refl out ns ts i p c)

    -- The child's tables are found by their names.
    pub slots-placed : Placed env0 q q-apart (shapes q terms r d ns) (axes_members r e) ts
    slots-placed = child-placed env0 q q-apart terms r d e child (upto size ∷ []) (slot_numbers S) (one_to S ∷ []) (slots-same env0 q q-apart S) refl out ns ts i p c

    -- They are as many as the child has.
    pub tables-long : length ts ≡ width r
    tables-long = placed-long env0 q q-apart (shapes q terms r d ns) (axes_members r e) ts slots-placed ∙ child.long ns

    -- The child's constraint at each slot.
    pub slot-means : (l : ℕ) (is : Exs) (bs : Bound env0 q q-apart) → Steady env0 q q-apart l is i bs → (k : ℕ) → 1 ≤ k → k ≤ S →
        meaning (structure q terms r d ns (suc l) (add_ex is (name_ex (q l)))) (M env0 q q-apart ((l, number (pos k)) ∷ bs)) ≡ Some (truth (canonical r e (behind (i ++ (pos k ∷ [])) (cells_of ts))))
    slot-means l is bs st k x y = child.means out ns ts (suc l) (add_ex is (name_ex (q l))) (i ++ (pos k ∷ [])) ((l, number (pos k)) ∷ bs) slots-placed (slot-fits k x y) (steady-name env0 q q-apart l (number (pos k)) is i bs st)
