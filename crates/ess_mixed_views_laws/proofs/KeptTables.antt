-- Tables with the marks and sizes of axes that are declared for a representation of nested sets keep them so.
use Rattle.std.proofs.Common.{◌≡◌, refl, sym, ap, ◌∙◌, subst, ℕ, Bool, true, false, ◌||◌, List, [], ◌∷◌, ◌++◌, map, length, Option, Some, append-nil, append_assoc, arith}
use Rattle.std.specs.Prelude.{codes}
use Rattle.ess_semantics.specs.Values.{Text}
use Rattle.ess_semantics.specs.Trees.{Mark, Repr, Exs, Dom, set_dom}
use Rattle.ess_semantics.specs.Contexts.{Each}
use Rattle.ess_semantics.specs.Meaning.{is_bool_dom}
use Rattle.ess_semantics.specs.DeclaredTables.{TableDecl}
use Rattle.ess_semantics.specs.Representations.{width}
use Rattle.ess_semantics.proofs.Tests.{and-both}
use Rattle.ess_repr_laws.specs.StructureParts.{upto}
use Rattle.ess_repr_declare_laws.specs.SizeTerms.{slots_ex}
use Rattle.ess_repr_declare_laws.specs.DeclaredTrees.{axis_dom, below_layer, trees_below, widened_if, cell_dom, with_dummy}
use Rattle.conjure_model_laws.specs.IsBuiltFrom.{with_whole_names}
use Rattle.ess_nested_laws.specs.NestedDomains.{is_size_key, are_written_sizes, is_written_atom}
use Rattle.ess_nested_laws.proofs.NestedForms.{Sizes, no_sizes, one_size, WrittenAtom, written_truths, written_numbers, written_range, KeptAs, as_atom, by_occurrence, with_a_dummy, in_slots, with_a_marker, with_flags}
use Rattle.ess_mixed_models_laws.specs.ess_seen_laws.Seen as seen
use Rattle.ess_mixed_models_laws.specs.ess_seen_laws.Seen.{Keeps}
use Rattle.ess_mixed_views_laws.proofs.AxisSizes.{axis_size, kept-slots, slots-counted, dummy-counted}

-- ---- tests

sizes-written : {ms : List Mark} {es : Exs} → Sizes ms es → are_written_sizes ms es ≡ true
sizes-written no_sizes = refl
sizes-written (one_size {k = k} {ms = ms} {es = es} h s) = and-both (is_size_key k) (are_written_sizes ms es) h (sizes-written s)

atom-written : {d : Dom} → WrittenAtom d → is_written_atom d ≡ true
atom-written written_truths = refl
atom-written written_numbers = refl

atom-mark : {d : Dom} (out : Bool) → WrittenAtom d → is_bool_dom (widened_if out (cell_dom d)) ≡ is_bool_dom d
atom-mark true written_truths = refl
atom-mark false written_truths = refl
atom-mark true written_numbers = refl
atom-mark false written_numbers = refl

dummy-mark : (out : Bool) (a b : ℕ) → is_bool_dom (widened_if out (with_dummy (written_range a b))) ≡ false
dummy-mark true a b = refl
dummy-mark false a b = refl

-- The table holds truth values where its cells are bool, and its axes have as many slots as they are declared with.
abbrev pub IsSized : (Text → Option (Bool × List ℕ)) → TableDecl → Type 0
IsSized cells t = cells t.name ≡ Some (is_bool_dom t.cell, map axis_size t.axes)

-- So are the tables of a representation, by these names.
abbrev pub AreSized : (Text → Option (Bool × List ℕ)) → Repr → Dom → List Text → Type 0
AreSized cells r d ns = Each (with_whole_names ns (trees_below false r d)) (IsSized cells)

module _ (cells : Text → Option (Bool × List ℕ)) where
  -- ---- declarations behind indices of such axes

  abbrev IsSo : List ℕ → TableDecl → Type 0
  IsSo ks t = cells t.name ≡ Some (is_bool_dom t.cell, ks ++ map axis_size t.axes)

  abbrev AreSo : List ℕ → List Text → List TableDecl → Type 0
  AreSo ks ns ts = Each (with_whole_names ns ts) (IsSo ks)

  marked : (n : Text) (b c : Bool) (is js : List ℕ) → cells n ≡ Some (b, is) → b ≡ c → is ≡ js → cells n ≡ Some (c, js)
  marked n b c is js h p q = h ∙ ap (λ z. Some (z, is)) p ∙ ap (λ z. Some (c, z)) q

  -- Declarations below a layer with one axis.
  below : (ks : List ℕ) (x : Text) (a : Dom) (ns : List Text) (ts : List TableDecl) → AreSo ks ns (map (below_layer x (a ∷ [])) ts) →
      AreSo (ks ++ (axis_size a ∷ [])) ns ts
  below ks x a [] ts h = tt
  below ks x a (n ∷ ns) [] h = tt
  below ks x a (n ∷ ns) (t ∷ ts) h = (
    marked n (is_bool_dom t.cell) (is_bool_dom t.cell) (ks ++ (axis_size a ∷ map axis_size t.axes))
        ((ks ++ (axis_size a ∷ [])) ++ map axis_size t.axes) h.0 refl
        (sym (append_assoc ks (axis_size a ∷ []) (map axis_size t.axes))),
    below ks x a ns ts h.1,
  )

  append-none : (ts : List TableDecl) → ts ++ [] ≡ ts
  append-none [] = refl
  append-none (t ∷ ts) = ap (λ us. t ∷ us) (append-none ts)

  -- What is declared of children, where nothing stands behind them.
  alone : (ks : List ℕ) (x : Text) (a : Dom) (ns : List Text) (ts : List TableDecl) → AreSo ks ns (map (below_layer x (a ∷ [])) ts ++ []) →
      AreSo (ks ++ (axis_size a ∷ [])) ns ts
  alone ks x a ns ts h = below ks x a ns ts (subst (λ us. AreSo ks ns us) (append-none (map (below_layer x (a ∷ [])) ts)) h)

  -- ---- tables

  keeps : {r : Repr} {d : Dom} → KeptAs r d → (out : Bool) (ks : List ℕ) (ns : List Text) → length ns ≡ width r →
      AreSo ks ns (trees_below out r d) → Keeps cells ks r d ns
  keeps (as_atom {d} a) out ks [] w h = absurd (omega (arith, w))
  keeps (as_atom {d} a) out ks (n ∷ m ∷ ns) w h = absurd (omega (arith, w))
  keeps (as_atom {d} a) out ks (n ∷ []) w h = seen.as_an_atom (atom-written a)
      (marked n (is_bool_dom (widened_if out (cell_dom d))) (is_bool_dom d) (ks ++ []) ks h.0 (atom-mark out a) (append-nil ks))
  keeps (by_occurrence s a) out ks [] w h = absurd (omega (arith, w))
  keeps (by_occurrence s a) out ks (n ∷ m ∷ ns) w h = absurd (omega (arith, w))
  keeps (by_occurrence {d = d} s a) out ks (n ∷ []) w h =
      seen.by_occurrence (axis_size (axis_dom d)) (sizes-written s) (atom-written a) h.0
  keeps (with_a_dummy {ms} {es} {a} {b} s) out ks [] w h = absurd (omega (arith, w))
  keeps (with_a_dummy {ms} {es} {a} {b} s) out ks (n ∷ m ∷ ns) w h = absurd (omega (arith, w))
  keeps (with_a_dummy {ms} {es} {a} {b} s) out ks (n ∷ []) w h =
      let k : ℕ = axis_size (upto (slots_ex (set_dom ms es (written_range a b)))) in
      seen.with_a_dummy (sizes-written s) refl refl (dummy-counted a b s)
      (marked n (is_bool_dom (widened_if out (with_dummy (written_range a b)))) false (ks ++ (k ∷ [])) (ks ++ (k ∷ [])) h.0
      (dummy-mark out a b) refl)
  keeps (in_slots {ms} {es} {r} {d} s e g) out ks ns w h = seen.in_slots (sizes-written s) (slots-counted d s (kept-slots g))
      (keeps g (out || false) (ks ++ (axis_size (upto (slots_ex (set_dom ms es d))) ∷ [])) ns (omega (arith, w))
      (alone ks (codes "_Explicit") (upto (slots_ex (set_dom ms es d))) ns (trees_below (out || false) r d) h))
  keeps (with_a_marker {ms} {es} {r} {d} s g) out ks [] w h = absurd (omega (arith, w))
  keeps (with_a_marker {ms} {es} {r} {d} s g) out ks (n ∷ ns) w h =
      seen.with_a_marker (sizes-written s) (slots-counted d s (kept-slots g)) (marked n false false (ks ++ []) ks h.0 refl (append-nil ks))
      (keeps g (out || true) (ks ++ (axis_size (upto (slots_ex (set_dom ms es d))) ∷ [])) ns (omega (arith, w))
      (alone ks (codes "_ExplicitVarSizeWithMarker_Values") (upto (slots_ex (set_dom ms es d))) ns (trees_below (out || true) r d) h.1))
  keeps (with_flags {ms} {es} {r} {d} s g) out ks [] w h = absurd (omega (arith, w))
  keeps (with_flags {ms} {es} {r} {d} s g) out ks (n ∷ ns) w h =
      seen.with_flags (sizes-written s) (slots-counted d s (kept-slots g)) h.0
      (keeps g (out || true) (ks ++ (axis_size (upto (slots_ex (set_dom ms es d))) ∷ [])) ns (omega (arith, w))
      (alone ks (codes "_ExplicitVarSizeWithFlags_Values") (upto (slots_ex (set_dom ms es d))) ns (trees_below (out || true) r d) h.1))

  -- So they keep the sets.
  pub tables-keep : {r : Repr} {d : Dom} → KeptAs r d → (ns : List Text) → length ns ≡ width r → AreSized cells r d ns →
      Keeps cells [] r d ns
  tables-keep {r} {d} g ns w h = keeps g false [] ns w h
