-- Whether a generator comes next, and whether a condition is a name alone.
use Rattle.std.proofs.Common.{◌≡◌, refl, sym, ap, ◌∙◌, ℕ, ◌+◌, ◌<◌, Bool, true, false, List, [], ◌∷◌, map, length, drop, Some, None, arith, length-drop}
use Rattle.std.specs.Prelude.{IsTrue, ◌↔◌}
use Rattle.std.specs.List.{slice_get}
use Rattle.std.proofs.lemmas.Option.{slice_get_within, get_or_from_slice_get, slice_get-get_or}
use Rattle.ess_semantics.specs.Values.{Text}
use Rattle.ess_semantics.specs.Trees.{cell_ex}
use Rattle.ess_grammar.specs.Models.{Scope, is_truth_table}
use Rattle.ess_print_laws.specs.Brackets.{starts_generator, is_written_as_pattern}
use Rattle.eprime_tree.specs.declared.expressions.PEx.{PEx}
use Rattle.eprime_tree.specs.declared.expressions.PDom.{PDom}
use Rattle.eprime_tree.specs.declared.expressions.PGen.{PGen}
use Rattle.eprime_tree.specs.declared.expressions.PEx.TheVariants.{Cell}
use Rattle.eprime_tree.specs.declared.expressions.PGen.TheVariants.{Over, If}
use Rattle.eprime_tree.specs.Views.{exs_of, pure_ex, pure_gen, gens_of}
use Rattle.eprime_tree.specs.Written.{written, gens_written}
use Rattle.eprime_tree.specs.Printed.{read_ex}
use Rattle.eprime_tree.proofs.Equations.{pure_ex-Cell, pure_gen-Over, pure_gen-If}
use Rattle.eprime_tree.proofs.Loops.{read_gens, left-more}

next-is : (gs : List PGen) (i : ℕ) (x : PGen) → Some x ≡ slice_get gs i → drop i gs ≡ x ∷ drop (i + 1) gs
next-is gs i x e = left-more gs i x (slice_get_within gs i x (sym e)) (sym (get_or_from_slice_get gs i x x (sym e)))

pub next-Over : (s : Scope) (gs : List PGen) (i : ℕ) (x : PGen) (a : Text) (d : PDom) → x ≡ Over a d → Some x ≡ slice_get gs i → true ≡ starts_generator (read_gens s (drop i gs))
next-Over s gs i x a d h e =
    sym (ap (λ xs. starts_generator (read_gens s xs)) (next-is gs i x e)
    ∙ ap (λ y. starts_generator (gens_written (gens_of (y ∷ map (pure_gen s) (drop (i + 1) gs))))) (ap (pure_gen s) h ∙ pure_gen-Over s a d))

pub next-If : (s : Scope) (gs : List PGen) (i : ℕ) (x : PGen) (f : PEx) → x ≡ If f → Some x ≡ slice_get gs i → false ≡ starts_generator (read_gens s (drop i gs))
next-If s gs i x f h e =
    sym (ap (λ xs. starts_generator (read_gens s xs)) (next-is gs i x e)
    ∙ ap (λ y. starts_generator (gens_written (gens_of (y ∷ map (pure_gen s) (drop (i + 1) gs))))) (ap (pure_gen s) h ∙ pure_gen-If s f))

nothing-left : (gs : List PGen) (i : ℕ) → None ≡ slice_get gs i → drop i gs ≡ []
nothing-left gs i e = go gs i (drop i gs) refl e
  where
    there : (gs : List PGen) (i : ℕ) (g : PGen) → i < length gs → None ≡ slice_get gs i → ⊥
    there gs i g lt e = let h = e ∙ slice_get-get_or gs i g lt in cc

    go : (gs : List PGen) (i : ℕ) (ds : List PGen) → drop i gs ≡ ds → None ≡ slice_get gs i → ds ≡ []
    go gs i [] h e = refl
    go gs i (d ∷ ds) h e = absurd (there gs i d (within gs i d ds h) e)
      where
        within : (gs : List PGen) (i : ℕ) (d : PGen) (ds : List PGen) → drop i gs ≡ d ∷ ds → i < length gs
        within gs i d ds h = omega (arith, ap length h, length-drop i gs)

pub next-none : (s : Scope) (gs : List PGen) (i : ℕ) → None ≡ slice_get gs i → false ≡ starts_generator (read_gens s (drop i gs))
next-none s gs i e = sym (ap (λ xs. starts_generator (read_gens s xs)) (nothing-left gs i e))

pub cell-name : (s : Scope) (b : Bool) (e : PEx) (a : Text) (es : List PEx) → e ≡ Cell a es → (IsTrue b ↔ (es ≡ [])) → b ≡ is_written_as_pattern (read_ex s e)
cell-name s b e a es h t = told b es t ∙ sym (ap (λ x. is_written_as_pattern (written x)) (ap (pure_ex s) h ∙ pure_ex-Cell s a es))
  where
    told : (b : Bool) (es : List PEx) → (IsTrue b ↔ (es ≡ [])) → b ≡ is_written_as_pattern (written (cell_ex (is_truth_table s a) a (exs_of (map (pure_ex s) es))))
    told true [] t = refl
    told true (x ∷ xs) t = let k = t.0 refl in cc
    told false [] t = let k : false ≡ true = t.1 refl in cc
    told false (x ∷ xs) t = refl
