-- The bounds of the declared tables of nested sets are arithmetic of numerals, so a model keeps them as they are.
use Rattle.std.proofs.Common.{◌≡◌, refl, ap, ◌∙◌, Bool, true, false, ◌||◌, if◌then◌else◌, List, [], ◌∷◌, map, ℤ, pos, Some}
use Rattle.std.specs.Ordering.{int_cmp}
use Rattle.std.specs.declared.cmp.Ordering.{Ordering}
use Rattle.std.specs.declared.cmp.Ordering.TheVariants.{Less, Equal, Greater}
use Rattle.ess_semantics.specs.declared.words.Op2.{Op2}
use Rattle.ess_semantics.specs.Contexts.{Each}
use Rattle.ess_semantics.specs.Types.{Ty, int_ty}
use Rattle.ess_semantics.specs.Typing.{statics, type_of_node}
use Rattle.ess_semantics.specs.Trees.{binary, Repr, Mark, Ex, Exs, number_ex, no_exs, more_exs, Dom, bool_dom, int_dom, set_dom, ex2}
use Rattle.ess_semantics.specs.DeclaredTables.{TableDecl}
use Rattle.ess_semantics.specs.ModelMeaning.{Kinded, broken, is_nothing, kinded_node, kinded, kinded_dom, as_bound, bounds_of}
use Rattle.ess_repr_declare_laws.specs.SizeTerms.{one_ex, plus_ex, minus_ex, next_ex, is_numeral, span_ex, span_by, between_ex, bound_ex, slots_ex}
use Rattle.ess_repr_declare_laws.specs.DeclaredTrees.{trees_below}
use Rattle.ess_nested_laws.proofs.NestedForms.{written_range, Sizes, WrittenAtom, written_truths, written_numbers, KeptAs, as_atom, by_occurrence, with_a_dummy, in_slots, with_a_marker, with_flags}
use Rattle.ess_nested_tables_laws.proofs.TableBounds.{slots-have, AllHave, DomHas, DeclHas, LayersHave, tables-have}

-- Arithmetic of numerals: sums, differences and powers.
pub data Numeral : Ex → Type 0 where
  written : {n : ℤ} → Numeral (number_ex n)
  plus : {a b : Ex} → Numeral a → Numeral b → Numeral (ex2 false Op2.Plus a b)
  minus : {a b : Ex} → Numeral a → Numeral b → Numeral (ex2 false Op2.Minus a b)
  power : {a b : Ex} → Numeral a → Numeral b → Numeral (ex2 false Op2.Pow a b)

-- ---- sizes

span-numeral : (a b : ℤ) → Numeral (span_ex (number_ex a) (number_ex b))
span-numeral a b = go (is_numeral (pos 0) (number_ex a)) (is_numeral (pos 1) (number_ex a))
  where
    go : (c d : Bool) → Numeral (if c then next_ex (number_ex b) else (if d then number_ex b else plus_ex
        (minus_ex one_ex (number_ex a)) (number_ex b)))
    go true d = plus written written
    go false true = written
    go false false = plus (minus written written) written

between-numeral : (a b : ℤ) → Numeral (between_ex (number_ex a) (number_ex b))
between-numeral a b = go (int_cmp a b)
  where
    go : (o : Ordering) → Numeral (span_by (Some o) (number_ex a) (number_ex b))
    go Less = span-numeral a b
    go Equal = written
    go Greater = written

atom-numeral : {d : Dom} → WrittenAtom d → Numeral (bound_ex d)
atom-numeral written_truths = written
atom-numeral (written_numbers {a = a} {b = b}) = between-numeral (pos a) (pos b)

-- The bound of a domain is arithmetic of numerals.
pub bound-numeral : {r : Repr} {d : Dom} → KeptAs r d → Numeral (bound_ex d)
bound-numeral (as_atom a) = atom-numeral a
bound-numeral (by_occurrence s a) = power written (atom-numeral a)
bound-numeral (with_a_dummy {a = a} {b = b} s) = power written (between-numeral (pos a) (pos b))
bound-numeral (in_slots s k w) = power written (bound-numeral w)
bound-numeral (with_a_marker s w) = power written (bound-numeral w)
bound-numeral (with_flags s w) = power written (bound-numeral w)

slots-numeral : {ms : List Mark} {es : Exs} (d : Dom) → Sizes ms es → Numeral (bound_ex d) → Numeral (slots_ex (set_dom ms es d))
slots-numeral d s h = slots-have Numeral d s (λ n e. written) (λ e. h)

atom-bounds : {d : Dom} → WrittenAtom d → DomHas Numeral d
atom-bounds written_truths = tt
atom-bounds written_numbers = (written, (written, tt))

layers-numeral : {r : Repr} {d : Dom} → KeptAs r d → LayersHave Numeral r d
layers-numeral (as_atom written_truths) = tt
layers-numeral (as_atom written_numbers) = (written, (written, tt))
layers-numeral (by_occurrence s a) = atom-bounds a
layers-numeral (with_a_dummy {a = a} {b = b} s) =
    (slots-numeral (written_range a b) s (between-numeral (pos a) (pos b)), (written, (written, (plus written written, tt))))
layers-numeral (in_slots {d = d} s k w) = (slots-numeral d s (bound-numeral w), layers-numeral w)
layers-numeral (with_a_marker {d = d} s w) = (slots-numeral d s (bound-numeral w), layers-numeral w)
layers-numeral (with_flags {d = d} s w) = (slots-numeral d s (bound-numeral w), layers-numeral w)

-- So are the bounds of all tables.
pub tables-numeral : (out : Bool) {r : Repr} {d : Dom} → KeptAs r d → Each (trees_below out r d) (DeclHas Numeral)
tables-numeral out w = tables-have Numeral written written out w (layers-numeral w)

-- ---- in a model

-- A node on two operands with their kinds.
abbrev on_two : Op2 → Kinded → Kinded → Kinded
on_two o k l = kinded_node (binary o) (more_exs k.0 (more_exs l.0 no_exs)) (k.1 ∷ l.1 ∷ [])
    (type_of_node (binary o) (statics (more_exs k.0 (more_exs l.0 no_exs))) (map (λ t. Some t) (k.1 ∷ l.1 ∷ [])))

-- Both operands are something.
both-there : (k : Kinded) (t : Ty) (x y : Ex) → is_nothing x ≡ false → is_nothing y ≡ false →
    (if is_nothing x || (is_nothing y || false) then broken t else k) ≡ k
both-there k t x y p q = ap (λ c. if c || (is_nothing y || false) then broken t else k) p ∙ ap (λ c. if c || false then broken t else k) q

not-nothing : {e : Ex} → Numeral e → is_nothing e ≡ false
not-nothing written = refl
not-nothing (plus a b) = refl
not-nothing (minus a b) = refl
not-nothing (power a b) = refl

module _ (ds : List TableDecl) where
  -- A numeral, and arithmetic of such, is a number and stays as it is.
  pub numeral-kinded : {e : Ex} → Numeral e → kinded ds e [] ≡ (e, int_ty)
  numeral-kinded written = refl
  numeral-kinded (plus {a = x} {b = y} a b) =
      ap (λ k. on_two Op2.Plus k (kinded ds y [])) (numeral-kinded a) ∙ ap (on_two Op2.Plus (x, int_ty)) (numeral-kinded b)
      ∙ both-there (ex2 false Op2.Plus x y, int_ty) int_ty x y (not-nothing a) (not-nothing b)
  numeral-kinded (minus {a = x} {b = y} a b) =
      ap (λ k. on_two Op2.Minus k (kinded ds y [])) (numeral-kinded a) ∙ ap (on_two Op2.Minus (x, int_ty)) (numeral-kinded b)
      ∙ both-there (ex2 false Op2.Minus x y, int_ty) int_ty x y (not-nothing a) (not-nothing b)
  numeral-kinded (power {a = x} {b = y} a b) =
      ap (λ k. on_two Op2.Pow k (kinded ds y [])) (numeral-kinded a) ∙ ap (on_two Op2.Pow (x, int_ty)) (numeral-kinded b)
      ∙ both-there (ex2 false Op2.Pow x y, int_ty) int_ty x y (not-nothing a) (not-nothing b)

  bounds-stay : (es : Exs) → AllHave Numeral es → bounds_of ds es [] ≡ es
  bounds-stay no_exs h = refl
  bounds-stay (more_exs e es) h =
      ap (λ k. more_exs (as_bound k) (bounds_of ds es [])) (numeral-kinded h.0) ∙ ap (more_exs e) (bounds-stay es h.1)

  -- So does a domain.
  pub dom-stays : (d : Dom) → DomHas Numeral d → kinded_dom ds d [] ≡ d
  dom-stays bool_dom h = refl
  dom-stays (int_dom rs es) h = ap (int_dom rs) (bounds-stay es h)
  dom-stays d h = absurd h
