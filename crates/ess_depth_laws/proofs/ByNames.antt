-- Where no bound name hides another one, no more are bound around a place than there are names that aren't in scope.
use Rattle.std.proofs.Common.{◌≡◌, refl, ℕ, zero, suc, ◌≤◌, ◌<◌, Bool, true, false, not, List, length, arith}
use Rattle.std.specs.Prelude.{IsTrue}
use Rattle.ess_semantics.specs.Values.{Text}
use Rattle.ess_semantics.specs.Names.{is_among}
use Rattle.ess_semantics.specs.Trees.{Pat, name_pat, tuple_pat, Ex, Exs, number_ex, truth_ex, name_ex, node_ex, matrix_ex, comp_ex, cell_ex, seen_ex, no_exs, more_exs, Gens, no_gens, over, from, cond, Dom, bool_dom, int_dom, name_dom, tuple_dom, record_dom, matrix_dom, set_dom, mset_dom, function_dom, relation_dom, partition_dom}
use Rattle.ess_semantics.specs.Substitution.{NamesAre, NamesAreExs, NamesAreGens, NamesAreDom}
use Rattle.ess_semantics.specs.Scoped.{with_names, Scoped, ScopedExs, ScopedGens, ScopedDom}
use Rattle.ess_depth_laws.specs.Depth.{NestsWithin, AllNestWithin, NestBehind, DomNestsWithin}
use Rattle.ess_depth_laws.proofs.Left.{left_of, left-most, left-wider, left-less, still}

on : (a b c : ℕ) → a ≤ b → b ≤ c → a ≤ c
on a b c p q = omega (arith, p, q)

none-left : (x y : ℕ) → x < y → y ≤ 0 → ⊥
none-left x y p q = omega (arith, p, q)

one-taken : (x y n : ℕ) → x < y → y ≤ suc n → x ≤ n
one-taken x y n p q = omega (arith, p, q)

isnt : (b : Bool) → IsTrue (not b) → b ≡ false
isnt false h = refl
isnt true h = cc

module _ (names : List Text) (z u : Text → Bool) where
  less : (s : Text → Bool) (a : Text) → IsTrue (not (s a)) → IsTrue (is_among names a) →
      left_of names (with_names s (name_pat a)) < left_of names s
  less s a h m = left-less names s a m (isnt (s a) h)

  wider : (s : Text → Bool) (p : Pat) (n : ℕ) → left_of names s ≤ n → left_of names (with_names s p) ≤ n
  wider s p n l = on (left_of names (with_names s p)) (left_of names s) n (left-wider names s (with_names s p) (still s p)) l

  mutual
    ex-within : (e : Ex) (s o : Text → Bool) (n : ℕ) → left_of names s ≤ n → Scoped z s o e → NamesAre u (is_among names) e →
        NestsWithin n e
    ex-within (number_ex k) s o n l h m = tt
    ex-within (truth_ex b) s o n l h m = tt
    ex-within (name_ex a) s o n l h m = tt
    ex-within (node_ex b op es) s o n l h m = all-within es s o n l h m
    ex-within (matrix_ex es d) s o n l h m = all-within es s o n l h.0 m.0
    ex-within (comp_ex e gs) s o n l h m = gens-within gs s o n e l h m.1
        (λ t p k q g. ex-within e t p k q g m.0)
    ex-within (cell_ex b a es) s o n l h m = all-within es s o n l h m
    ex-within (seen_ex r d ns es) s o n l h m = tt

    all-within : (es : Exs) (s o : Text → Bool) (n : ℕ) → left_of names s ≤ n → ScopedExs z s o es → NamesAreExs u (is_among names) es →
        AllNestWithin n es
    all-within no_exs s o n l h m = tt
    all-within (more_exs e es) s o n l h m = (ex-within e s o n l h.0 m.0, all-within es s o n l h.1 m.1)

    gens-within : (gs : Gens) (s o : Text → Bool) (n : ℕ) (x : Ex) → left_of names s ≤ n → ScopedGens z s o gs (λ t p. Scoped z t p x) →
        NamesAreGens u (is_among names) gs → ((t p : Text → Bool) (k : ℕ) → left_of names t ≤ k → Scoped z t p x → NestsWithin k x) →
        NestBehind n gs (λ k. NestsWithin k x)
    gens-within no_gens s o n x l h m f = f s o n l h
    gens-within (over (tuple_pat ps) d gs) s o n x l h m f = (
      dom-within d s o n l h.1 m.1,
      gens-within gs (with_names s (tuple_pat ps)) (with_names o (tuple_pat ps)) n x (wider s (tuple_pat ps) n l) h.2 m.2 f,
    )
    gens-within (over (name_pat a) d gs) s o zero x l h m f =
        none-left (left_of names (with_names s (name_pat a))) (left_of names s) (less s a h.0 m.0) l
    gens-within (over (name_pat a) d gs) s o (suc n) x l h m f = (
      dom-within d s o (suc n) l h.1 m.1,
      gens-within gs (with_names s (name_pat a)) (with_names o (name_pat a)) n x
          (one-taken (left_of names (with_names s (name_pat a))) (left_of names s) n (less s a h.0 m.0) l) h.2 m.2 f,
    )
    gens-within (from (tuple_pat ps) e gs) s o n x l h m f = (
      ex-within e s o n l h.1 m.1,
      gens-within gs (with_names s (tuple_pat ps)) o n x (wider s (tuple_pat ps) n l) h.2 m.2 f,
    )
    gens-within (from (name_pat a) e gs) s o zero x l h m f =
        none-left (left_of names (with_names s (name_pat a))) (left_of names s) (less s a h.0 m.0) l
    gens-within (from (name_pat a) e gs) s o (suc n) x l h m f = (
      ex-within e s o (suc n) l h.1 m.1,
      gens-within gs (with_names s (name_pat a)) o n x
          (one-taken (left_of names (with_names s (name_pat a))) (left_of names s) n (less s a h.0 m.0) l) h.2 m.2 f,
    )
    gens-within (cond e gs) s o n x l h m f = (ex-within e s o n l h.0 m.0, gens-within gs s o n x l h.1 m.1 f)

    dom-within : (d : Dom) (s o : Text → Bool) (n : ℕ) → left_of names s ≤ n → ScopedDom z s o d → NamesAreDom u (is_among names) d →
        DomNestsWithin n d
    dom-within bool_dom s o n l h m = tt
    dom-within (int_dom rs es) s o n l h m = all-within es s o n l h m
    dom-within (name_dom a) s o n l h m = tt
    dom-within (tuple_dom ds) s o n l h m = tt
    dom-within (record_dom fs ds) s o n l h m = tt
    dom-within (matrix_dom is d) s o n l h m = tt
    dom-within (set_dom ms es d) s o n l h m = tt
    dom-within (mset_dom ms es d) s o n l h m = tt
    dom-within (function_dom ms es d c) s o n l h m = tt
    dom-within (relation_dom ms es ds) s o n l h m = tt
    dom-within (partition_dom ms es d) s o n l h m = tt

-- No more names are bound around a place than there are names that bound ones are of.
pub within-names : (names : List Text) (z s o u : Text → Bool) (e : Ex) → Scoped z s o e → NamesAre u (is_among names) e →
    NestsWithin (length names) e
within-names names z s o u e h m = ex-within names z u e s o (length names) (left-most names s) h m
