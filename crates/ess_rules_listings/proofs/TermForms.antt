-- What operators and words offer, by their operands.
use Rattle.std.proofs.Common.{◌≡◌, refl, false, None}
use Rattle.ess_semantics.specs.declared.words.Op2.{Op2}
use Rattle.ess_semantics.specs.declared.words.Fun.{Fun}
use Rattle.ess_semantics.specs.Lists.{and_then}
use Rattle.ess_semantics.specs.Values.{Text}
use Rattle.ess_semantics.specs.Names.{Names}
use Rattle.ess_semantics.specs.Trees.{binary, word, Ex, Exs, node_ex, ex2, fun1, no_exs, more_exs}
use Rattle.ess_semantics.specs.Types.{Ty}
use Rattle.ess_rules_laws.specs.Listings.{listing}
use Rattle.ess_rules_forms.specs.Forms.{only_operand, both_operands}

module _ (g : Names Ty) (x : Text) where
  -- No operator between two terms has another number of operands.
  pair_without : (o : Op2) → listing g x (node_ex false (binary o) no_exs) ≡ None
  pair_without Op2.Union = refl
  pair_without Op2.Intersect = refl
  pair_without Op2.Minus = refl
  pair_without o = refl

  pair_with_one : (o : Op2) (a : Ex) → listing g x (node_ex false (binary o) (more_exs a no_exs)) ≡ None
  pair_with_one Op2.Union a = refl
  pair_with_one Op2.Intersect a = refl
  pair_with_one Op2.Minus a = refl
  pair_with_one o a = refl

  pair_with_more : (o : Op2) (a b c : Ex) (es : Exs)
      → listing g x (node_ex false (binary o) (more_exs a (more_exs b (more_exs c es)))) ≡ None
  pair_with_more Op2.Union a b c es = refl
  pair_with_more Op2.Intersect a b c es = refl
  pair_with_more Op2.Minus a b c es = refl
  pair_with_more o a b c es = refl

  -- An operator between two terms.
  pub pair_listed : (o : Op2) (es : Exs)
      → listing g x (node_ex false (binary o) es) ≡ and_then (both_operands es) (λ p. listing g x (ex2 false o p.0 p.1))
  pair_listed o no_exs = pair_without o
  pair_listed o (more_exs a no_exs) = pair_with_one o a
  pair_listed o (more_exs a (more_exs b no_exs)) = refl
  pair_listed o (more_exs a (more_exs b (more_exs c es))) = pair_with_more o a b c es

  word_without : (f : Fun) → listing g x (node_ex false (word f) no_exs) ≡ None
  word_without Fun.ToMSet = refl
  word_without Fun.ToSet = refl
  word_without Fun.Parts = refl
  word_without f = refl

  word_with_more : (f : Fun) (a b : Ex) (es : Exs) → listing g x (node_ex false (word f) (more_exs a (more_exs b es))) ≡ None
  word_with_more Fun.ToMSet a b es = refl
  word_with_more Fun.ToSet a b es = refl
  word_with_more Fun.Parts a b es = refl
  word_with_more f a b es = refl

  -- A word of a term.
  pub word_listed : (f : Fun) (es : Exs)
      → listing g x (node_ex false (word f) es) ≡ and_then (only_operand es) (λ s. listing g x (fun1 false f s))
  word_listed f no_exs = word_without f
  word_listed f (more_exs a no_exs) = refl
  word_listed f (more_exs a (more_exs b es)) = word_with_more f a b es
