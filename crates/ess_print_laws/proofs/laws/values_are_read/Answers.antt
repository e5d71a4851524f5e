use Rattle.ess_print_laws.proofs.laws.values_are_read.Goals as goal
use Rattle.std.proofs.Common.{refl, sym, subst, []}
use Rattle.ess_grammar.specs.ValueTexts.{literal_of}
use Rattle.ess_print_laws.specs.Expressions.{ex_pieces}
use Rattle.ess_print_laws.specs.Laws.{ReadsInSubset, IsClosedExpression, IsLettingOf}
use Rattle.ess_print_laws.proofs.LexedPieces.{printed-tokens, printed-inside}
use Rattle.ess_print_laws.proofs.SafeTrees.{ex-safe}
use Rattle.ess_print_laws.proofs.Expressions.{ex-printed}
use Rattle.ess_print_laws.proofs.Lettings.{expression-letting}
use Rattle.ess_print_laws.proofs.ValueTexts.{value-text-is}
use Rattle.ess_print_laws.proofs.SpelledReadable.{value-readable}

pub returns : goal.returns
returns c =
    record {
      texts = λ n v h. sym (value-text-is n v h);
      readable = value-readable;
      reads = λ n v h.
          let e = literal_of n v in
          let s = (ex-safe e (value-readable n v h)).law [] refl tt in
          let r = (ex-printed e (value-readable n v h)).reads [] in
          subst (λ t. ReadsInSubset t (IsClosedExpression e)) (value-text-is n v h) ((_, printed-tokens (ex_pieces e []) s, (r.shape, r.level, r.derivation)), printed-inside (ex_pieces e []) s);
      letting = λ n v h. subst (IsLettingOf (literal_of n v)) (value-text-is n v h) (expression-letting (literal_of n v) (value-readable n v h));
    }
