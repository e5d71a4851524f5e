-- Reserved names differ, so a tree whose bound names are told apart means the same and is kept.
use Rattle.std.proofs.Common.{◌≡◌, refl, sym, ap, ◌∙◌, ℕ, ◌≤◌, ◌^◌, Bool, true, false, [], arith, decimal}
use Rattle.std.proofs.lemmas.Fmt.{decimal_injective}
use Rattle.ess_semantics.specs.Values.{Text}
use Rattle.ess_semantics.specs.Order.{same_text}
use Rattle.ess_semantics.specs.Trees.{Ex}
use Rattle.ess_semantics.specs.Meaning.{Env, meaning}
use Rattle.ess_semantics.specs.FreeNames.{FreeNamesAre}
use Rattle.ess_semantics.proofs.Texts.{same_text-equal}
use Rattle.ess_rules_laws.proofs.Simulation.{Vals}
use Rattle.conjure_laws.specs.PlainTrees.{Plain}
use Rattle.conjure_laws.proofs.PlainTrees.{plain-meets}
use Rattle.conjure_model_laws.specs.ToldApart.{reserved, is_unreserved, told, told_apart}
use Rattle.conjure_model_laws.specs.TreeLaws.{NamesToldApart}
use Rattle.conjure_model_laws.proofs.Renames.{Differ, Renames}
use Rattle.conjure_model_laws.proofs.Counted.{ex-plain}
use Rattle.conjure_model_laws.proofs.ToldMeanings.{meaning-told}

-- Two reserved names differ.
pub reserved-differ : Differ reserved (2 ^ 64)
reserved-differ i j l m = go (same_text (reserved j) (reserved i)) refl
  where
    go : (b : Bool) → same_text (reserved j) (reserved i) ≡ b → same_text (reserved j) (reserved i) ≡ false
    go false e = e
    go true e =
        let q : reserved j ≡ reserved i = same_text-equal (reserved j) (reserved i) e in
        let d : decimal j ≡ decimal i = cc in
        let z : j ≡ i = decimal_injective j i m (omega (arith, l, m)) d in
        absurd (omega (arith, l, z))

-- At first each name stands for itself.
pub start : (k : ℕ) (u : Text → Bool) → ((j : ℕ) → k ≤ j → u (reserved j) ≡ false) → (g : Vals) → Renames reserved (2 ^ 64) u [] k g g
start k u f g c t = (refl, λ j l m. go j l (same_text (reserved j) c) refl)
  where
    go : (j : ℕ) → k ≤ j → (b : Bool) → same_text (reserved j) c ≡ b → same_text (reserved j) c ≡ false
    go j l false e = e
    go j l true e = let q : true ≡ false = sym t ∙ ap u (sym (same_text-equal (reserved j) c e)) ∙ f j l in cc

told-means : (k : ℕ) (u : Text → Bool) (e : Ex) → Plain e → FreeNamesAre u e → ((j : ℕ) → k ≤ j → u (reserved j) ≡ false) →
    (told e [] k).1 ≤ 2 ^ 64 → (env : Env) → meaning (told_apart k e) env ≡ meaning e env
told-means k u e w o f l env =
    meaning-told (2 ^ 64) reserved-differ env.positions env.types env.cells e u [] k env.vals env.vals w o l (start k u f env.vals)

-- What is proved of names told apart.
pub names-told-apart : NamesToldApart
names-told-apart = record {
  means = told-means;
  keeps = λ k u e w o f l g env p m. (sym (told-means k u e w o f l env), plain-meets (told_apart k e) env (ex-plain e [] k w));
  plain = λ k e w. ex-plain e [] k w;
  of_specifications = λ k e w o l env. told-means k is_unreserved e w o (λ j m. refl) l env;
}
