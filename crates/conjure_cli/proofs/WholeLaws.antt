-- Laws of the two ways of a text: where the small way isn't taken, the answer of the whole language is the one that is meant.
use Rattle.std.proofs.Common.{◌≡◌, ℕ, inr, List, true, false, Option, Some, None, option_map}
use Rattle.std.specs.Prelude.{Result, IfOk, IfErr}
use Rattle.std.specs.Option.{is_some}
use Rattle.std.proofs.lemmas.Result.{IfOk-weaker, IfErr-weaker}
use Rattle.conjure_cli_laws.specs.SmallGrammar.{IsInSmallGrammar}
use Rattle.conjure_modelling.specs.declared.refusal.ModelNo.{ModelNo}
use Rattle.conjure_modelling.specs.Modelled.{IsModelled, IsUnmodelled}
use Rattle.conjure_cli.specs.Whole.{IsSmallWay, IsModelFor, IsUnmodelledFor}

-- a reason of the whole language, by its form
other_reason : (list : Option (List ℕ)) (text : List ℕ) (why : ModelNo) → (IsSmallWay list text → ⊥) → IsUnmodelled text list why
    → IsUnmodelledFor list text why
other_reason list text ModelNo.NoMemory other h = tt
other_reason list text ModelNo.NotYet other h = (other, h)
other_reason list text (ModelNo.Specification why) other h = (other, h)
other_reason list text (ModelNo.BadRepresentation k) other h = (other, h)

-- Where no list is given and the text isn't one of the small grammar, the whole language's refusal is the one that is meant.
pub unlisted_refused : {A M : Type 0} (read : A → List ℕ) (list : Option A) (result : Result M ModelNo) (text : List ℕ)
    → is_some list ≡ false → (IsInSmallGrammar text → ⊥) → IfErr result (IsUnmodelled text None)
    → IfErr result (IsUnmodelledFor (option_map read list) text)
unlisted_refused read None result text is other h =
    IfErr-weaker result (IsUnmodelled text None) (IsUnmodelledFor None text) (λ why k. other_reason None text why other k) h
unlisted_refused read (Some l) result text is other h = let k : true ≡ false = is in absurd (true_is_not_false k)
  where
    true_is_not_false : true ≡ false → ⊥
    true_is_not_false k = cc

-- So is its model.
pub unlisted_modelled : {A M : Type 0} (read : A → List ℕ) (items : M → List ℕ) (list : Option A) (result : Result M ModelNo)
    (text : List ℕ) → is_some list ≡ false → (IsInSmallGrammar text → ⊥) → IfOk result (λ m. IsModelled text None (items m))
    → IfOk result (λ m. IsModelFor (option_map read list) text (items m))
unlisted_modelled read items None result text is other h =
    IfOk-weaker result (λ m. IsModelled text None (items m)) (λ m. IsModelFor None text (items m)) (λ m k. inr (other, k)) h
unlisted_modelled read items (Some l) result text is other h = let k : true ≡ false = is in absurd (true_is_not_false k)
  where
    true_is_not_false : true ≡ false → ⊥
    true_is_not_false k = cc
