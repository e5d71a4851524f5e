-- The text of a value that is spelled is read as its literal, and so is that of a value that a literal has.
use Rattle.std.proofs.Common.{◌≡◌, ◌∙◌, ℕ, [], refl, sym, subst}
use Rattle.std.specs.Prelude.{IsTrue}
use Rattle.ess_semantics.specs.Values.{Text, Value}
use Rattle.ess_grammar.specs.ValueTexts.{value_text, literal_of}
use Rattle.ess_print_laws.specs.Expressions.{ex_pieces}
use Rattle.ess_print_laws.specs.Laws.{ReadsInSubset, IsClosedExpression, IsLettingOf}
use Rattle.ess_print_laws.specs.Spelled.{is_spelled}
use Rattle.ess_semantics.specs.Meaning.{Env}
use Rattle.ess_values_laws.specs.ItemNames.{item_name}
use Rattle.ess_values_laws.specs.Laws.{ReadsBack, ReadsAsValue}
use Rattle.ess_values_laws.proofs.ReadBack.{read-back, readable-spelled}
use Rattle.ess_print_laws.proofs.LexedPieces.{printed-tokens, printed-inside}
use Rattle.ess_print_laws.proofs.SafeTrees.{ex-safe}
use Rattle.ess_print_laws.proofs.Expressions.{ex-printed}
use Rattle.ess_print_laws.proofs.Lettings.{expression-letting}
use Rattle.ess_print_laws.proofs.ValueTexts.{value-text-is}
use Rattle.ess_print_laws.proofs.SpelledReadable.{value-readable}

pub value_is_read : (name_of : Text → ℕ → Text) (v : Value) (t : Text) → t ≡ value_text name_of v → IsTrue (is_spelled name_of v) → ReadsInSubset t (IsClosedExpression (literal_of name_of v))
value_is_read name_of v t is h =
    let e = literal_of name_of v in
    let s = (ex-safe e (value-readable name_of v h)).law [] refl tt in
    let r = (ex-printed e (value-readable name_of v h)).reads [] in
    subst (λ u. ReadsInSubset u (IsClosedExpression e)) (value-text-is name_of v h ∙ sym is) ((_, printed-tokens (ex_pieces e []) s, (r.shape, r.level, r.derivation)), printed-inside (ex_pieces e []) s)

pub value_is_in_letting : (name_of : Text → ℕ → Text) (v : Value) (t : Text) → t ≡ value_text name_of v → IsTrue (is_spelled name_of v) → IsLettingOf (literal_of name_of v) t
value_is_in_letting name_of v t is h =
    subst (IsLettingOf (literal_of name_of v)) (value-text-is name_of v h ∙ sym is) (expression-letting (literal_of name_of v) (value-readable name_of v h))

pub value_is_read_back : (env : Env) (v : Value) (text : Text) → text ≡ value_text (item_name env.types) v → ReadsBack env v text
value_is_read_back env v text is e t names r h n =
    subst (λ u. ReadsAsValue u env t v) (sym is) (read-back e t v env names h (readable-spelled e t v env names r h n))
