-- A value that a literal has is spelled, and its text is read back as the value.
use Rattle.std.proofs.Common.{◌≡◌, refl, subst, true, false, [], Some}
use Rattle.ess_semantics.specs.Values.{Value}
use Rattle.ess_semantics.specs.Trees.{Ex}
use Rattle.ess_semantics.specs.Types.{Ty}
use Rattle.ess_semantics.specs.Meaning.{Env}
use Rattle.ess_semantics.specs.Literals.{literal_value}
use Rattle.ess_semantics.proofs.Tests.{and-both}
use Rattle.ess_grammar.specs.Readable.{ReadableEx}
use Rattle.ess_grammar.specs.ValueTexts.{literal_of}
use Rattle.ess_print_laws.specs.Expressions.{ex_pieces}
use Rattle.ess_print_laws.specs.Spelled.{is_spelled}
use Rattle.ess_print_laws.specs.Laws.{ReadsInSubset, IsClosedExpression, IsLettingOf}
use Rattle.ess_print_laws.proofs.LexedPieces.{printed-tokens, printed-inside}
use Rattle.ess_print_laws.proofs.SafeTrees.{ex-safe}
use Rattle.ess_print_laws.proofs.Expressions.{ex-printed}
use Rattle.ess_print_laws.proofs.Lettings.{expression-letting}
use Rattle.ess_print_laws.proofs.ValueTexts.{value-text-is}
use Rattle.ess_print_laws.proofs.SpelledReadable.{value-readable}
use Rattle.ess_values_laws.specs.ItemNames.{item_name}
use Rattle.ess_values_laws.specs.Spellable.{numbers_fit, parts_fit, have_name_tokens}
use Rattle.ess_values_laws.specs.Laws.{HasItemNames, IsReadBack}
use Rattle.ess_values_laws.proofs.KeptValues.{kept-value}
use Rattle.ess_values_laws.proofs.SpelledLiterals.{value-spelled}

pub readable-spelled : (e : Ex) (t : Ty) (v : Value) (env : Env) → HasItemNames env → ReadableEx e → literal_value e t env ≡ Some v →
    numbers_fit v ≡ true → is_spelled (item_name env.types) v ≡ true
readable-spelled e t v env names r h n = value-spelled env names true e t v r h (and-both (numbers_fit v) true n refl)

pub named-spelled : (e : Ex) (t : Ty) (v : Value) (env : Env) → HasItemNames env → have_name_tokens env.types ≡ true → literal_value e t env ≡ Some v →
    numbers_fit v ≡ true → parts_fit v ≡ true → is_spelled (item_name env.types) v ≡ true
named-spelled e t v env names k h n p = value-spelled env names false e t v k h (and-both (numbers_fit v) (parts_fit v) n p)

pub read-back : (e : Ex) (t : Ty) (v : Value) (env : Env) → HasItemNames env → literal_value e t env ≡ Some v → is_spelled (item_name env.types) v ≡ true → IsReadBack env t v
read-back e t v env names h s =
    let n = item_name env.types in
    let x = literal_of n v in
    let safe = (ex-safe x (value-readable n v s)).law [] refl tt in
    let r = (ex-printed x (value-readable n v s)).reads [] in (
      subst (λ w. ReadsInSubset w (IsClosedExpression x)) (value-text-is n v s)
          ((_, printed-tokens (ex_pieces x []) safe, (r.shape, r.level, r.derivation)), printed-inside (ex_pieces x []) safe),
      subst (IsLettingOf x) (value-text-is n v s) (expression-letting x (value-readable n v s)),
      kept-value env names e t v h,
    )
