-- A refined tree with printed names means the same.
use Rattle.std.proofs.Common.{◌≡◌, refl, sym, ap, ◌∙◌, ℕ, suc, ◌+◌, ◌<◌, ◌^◌, Bool, true, false, List, [], length, arith}
use Rattle.ess_semantics.specs.Values.{Text}
use Rattle.ess_semantics.specs.Order.{same_text}
use Rattle.ess_semantics.specs.Names.{is_among}
use Rattle.ess_semantics.specs.Trees.{Ex}
use Rattle.ess_semantics.specs.Meaning.{Env, meaning}
use Rattle.ess_semantics.specs.FreeNames.{FreeNamesAre}
use Rattle.ess_semantics.specs.Refined.{is_refined}
use Rattle.ess_semantics.proofs.Texts.{same_text-equal}
use Rattle.ess_rules_laws.proofs.Simulation.{Vals}
use Rattle.conjure_model_laws.specs.Printed.{printed_name, printed, binders}
use Rattle.conjure_model_laws.specs.TreeLaws.{NamesPrinted}
use Rattle.conjure_model_laws.proofs.Renames.{Renames}
use Rattle.conjure_model_laws.proofs.PrintedNames.{printed-free, printed-differ}
use Rattle.conjure_model_laws.proofs.SingleNames.{refined-single}
use Rattle.conjure_model_laws.proofs.PrintedMeanings.{meaning-printed}

-- At first each name stands for itself.
start : (taken : List Text) (lim : ℕ) (u : Text → Bool) → ((j : ℕ) → j < lim → u (printed_name taken j) ≡ false) → (g : Vals) →
    Renames (printed_name taken) lim u [] 0 g g
start taken lim u f g c t = (refl, λ j l m. go j m (same_text (printed_name taken j) c) refl)
  where
    go : (j : ℕ) → j < lim → (b : Bool) → same_text (printed_name taken j) c ≡ b → same_text (printed_name taken j) c ≡ false
    go j l false e = e
    go j l true e = let q : true ≡ false = sym t ∙ ap u (sym (same_text-equal (printed_name taken j) c e)) ∙ f j l in cc

printed-means : (taken : List Text) (u : Text → Bool) (e : Ex) → is_refined e ≡ true → FreeNamesAre u e →
    ((j : ℕ) → j < binders e → u (printed_name taken j) ≡ false) → binders e + length taken < 2 ^ 64 → (env : Env) →
    meaning (printed taken e []) env ≡ meaning e env
printed-means taken u e w o f l env =
    meaning-printed taken (binders e) (printed-differ taken (binders e) l) env.positions env.types env.cells e u [] env.vals env.vals
    (refined-single e w) o (omega arith) (start taken (binders e) u f env.vals)

-- What is proved of printed names.
pub names-printed : NamesPrinted
names-printed = record {
  means = printed-means;
  of_taken = λ taken e w o l env. printed-means taken (is_among taken) e w o (λ j m. printed-free taken j (omega (arith, l, m))) l env;
  of_closed = λ taken e w o l env. printed-means taken (λ a. false) e w o (λ j m. refl) l env;
  of_kept = λ taken g old e k w o l env p m. printed-means taken (λ a. false) e w o (λ j n. refl) l env ∙ sym (k env p m).0;
  differ = λ taken i j l m. printed-differ taken (suc j) m i j l (omega arith);
  free = printed-free;
}
