-- How what is appended to a text is put together.
use Rattle.std.proofs.Common.{◌≡◌, refl, sym, ap, ◌∙◌, Bool, true, false, ◌&&◌, not, List, [], ◌∷◌, ◌++◌, map, append_assoc}
use Rattle.std.specs.Prelude.{codes}
use Rattle.ess_semantics.specs.declared.words.Op2.{Op2}
use Rattle.ess_semantics.specs.declared.words.Fun.{Fun}
use Rattle.ess_semantics.specs.Values.{Text}
use Rattle.ess_semantics.specs.Trees.{Op, Ex}
use Rattle.ess_grammar.specs.Grammar.{one_ex}
use Rattle.ess_grammar.specs.Patterns.{is_sum}
use Rattle.ess_grammar.specs.Words.{operator}
use Rattle.ess_print_laws.specs.TokenTexts.{operator_text}
use Rattle.ess_print_laws.specs.Pieces.{Piece, token, space, text_of, Printer}
use Rattle.ess_print_laws.specs.Brackets.{are_written_as_patterns, begins_as_quantifier}
use Rattle.ess_print_laws.specs.Expressions.{ex_pieces, operands, wholes}
use Rattle.eprime_tree.specs.Views.{exs_of}
use Rattle.eprime_tree.specs.Written.{written, all_written}
use Rattle.eprime_tree.specs.Printed.{Puts, spaced_operator}

-- bytes that pieces say
pub puts-text : (before now t : Text) (p : Printer) → now ≡ before ++ t → ((us : List Piece) → text_of (p us) ≡ t ++ text_of us) → Puts before now p
puts-text before now t p h k us = ap (λ x. x ++ text_of us) h ∙ append_assoc before t (text_of us) ∙ ap (λ x. before ++ x) (sym (k us))

-- one part behind another
pub puts-then : (before mid now : Text) (p q : Printer) → Puts before mid p → Puts mid now q → Puts before now (λ us. p (q us))
puts-then before mid now p q f g us = g us ∙ f (q us)

-- between two texts
pub puts-between : (t0 t1 t2 t3 a b : Text) (o c p : Printer) → t1 ≡ t0 ++ a → ((us : List Piece) → text_of (o us) ≡ a ++ text_of us) → Puts t1 t2 p →
    t3 ≡ t2 ++ b → ((us : List Piece) → text_of (c us) ≡ b ++ text_of us) → Puts t0 t3 (λ us. o (p (c us)))
puts-between t0 t1 t2 t3 a b o c p h i f k j us =
    puts-then t1 t2 t3 p c f (puts-text t2 t3 b c k j) us ∙ puts-text t0 t1 a o h i (p (c us))

pub puts-operator : (before now : Text) (o : Op2) → now ≡ before ++ spaced_operator o → Puts before now (λ us. space ∷ token (operator o) ∷ space ∷ us)
puts-operator before now o h = puts-text before now (spaced_operator o) (λ us. space ∷ token (operator o) ∷ space ∷ us) h
    (λ us. sym (append_assoc (codes " " ++ operator_text o) (codes " ") (text_of us) ∙ append_assoc (codes " ") (operator_text o) (codes " " ++ text_of us)))

-- ---- several expressions

pub wholes-map : {A : Type 0} → (g : A → Ex) (xs : List A) → wholes (operands (all_written (exs_of (map g xs)))) ≡ map (λ x. ex_pieces (written (g x))) xs
wholes-map g [] = refl
wholes-map g (x ∷ xs) = ap (λ ps. ex_pieces (written (g x)) ∷ ps) (wholes-map g xs)

-- ---- a word's one operand

and-false : (b : Bool) → (b && false) ≡ false
and-false true = refl
and-false false = refl

-- it never begins a quantifier
pub one_operand : (f : Fun) (e : Ex) → begins_as_quantifier f (one_ex e) ≡ false
one_operand f e = ap (λ b. not (not (is_sum (Op.word f) && b))) (and-false (are_written_as_patterns (one_ex e))) ∙ ap (λ b. not (not b)) (and-false (is_sum (Op.word f)))
