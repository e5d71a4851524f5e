-- What the printing of a part of a model appends to a text: the pieces of the part, before any that follow. It is that
-- of the part's tree as it is read, whatever earlier lines declare.
use Rattle.std.specs.Prelude.{ℕ, zero, suc, ◌≡◌, Bool, ◌&&◌, List, [], ◌∷◌, ◌++◌, map, Option, Some, None, codes}
use Rattle.ess_semantics.specs.declared.words.Op2.{Op2}
use Rattle.ess_semantics.specs.declared.words.Fun.{Fun}
use Rattle.ess_semantics.specs.Values.{Text}
use Rattle.ess_semantics.specs.Trees.{one_value, both_ends, low_end, high_end, Ex, Dom}
use Rattle.ess_semantics.specs.DeclaredTables.{TableDecl}
use Rattle.ess_grammar.specs.Words.{Word, matrix_word, indexed_word, by_word, of_word, open_square, close_square, colon, dots}
use Rattle.ess_grammar.specs.Models.{Scope}
use Rattle.ess_print_laws.specs.TokenTexts.{operator_text, function_text, word_text}
use Rattle.ess_print_laws.specs.Pieces.{Piece, space, text_of, Printer, reserved, sign, named, within}
use Rattle.ess_print_laws.specs.Parts.{commas, bracketed}
use Rattle.ess_print_laws.specs.Brackets.{is_written_as_pattern}
use Rattle.ess_print_laws.specs.Expressions.{ex_pieces, gens_pieces, dom_pieces, domains}
use Rattle.eprime_tree.specs.declared.words.POp1.{POp1}
use Rattle.eprime_tree.specs.declared.expressions.PEx.{PEx}
use Rattle.eprime_tree.specs.declared.expressions.PEx.TheVariants.{One}
use Rattle.eprime_tree.specs.declared.expressions.PList.{PList}
use Rattle.eprime_tree.specs.declared.expressions.PGen.{PGen}
use Rattle.eprime_tree.specs.declared.expressions.PDom.{PDom}
use Rattle.eprime_tree.specs.declared.expressions.PRange.{PRange}
use Rattle.eprime_tree.specs.declared.models.PDecl.{PDecl}
use Rattle.eprime_tree.specs.declared.models.PGoal.{PGoal}
use Rattle.eprime_tree.specs.Views.{Item, over_item, cond_item, Bounds, gens_of, pure_ex, pure_list, pure_gen, pure_dom, pure_range, pure_decl, pure_decls, pure_goal}
use Rattle.eprime_tree.specs.Written.{written, gens_written, dom_written, doms_written}
use Rattle.eprime_tree.specs.ModelText.{head_lines, declaration_line, declaration_lines, goal_line, such_that_lines}

-- The text `now` is the text `before` and what the pieces of p say.
abbrev pub Puts : Text → Text → Printer → Type 0
Puts before now p = (us : List Piece) → now ++ text_of us ≡ before ++ text_of (p us)

-- The tree as it is read of an expression where earlier lines declare s.
abbrev pub read_ex : Scope → PEx → Ex
read_ex s e = written (pure_ex s e)

-- Of an expression.
unfoldable pub PrintsEx : Text → Text → PEx → Type 0
PrintsEx before now e = (s : Scope) → Puts before now (ex_pieces (read_ex s e))

-- Of an operator with its one operand.
unfoldable pub PrintsOne : Text → Text → POp1 → PEx → Type 0
PrintsOne before now o a = PrintsEx before now (One o a)

-- Of an expression, in brackets where b is true.
unfoldable pub PrintsBracketed : Text → Text → Bool → PEx → Type 0
PrintsBracketed before now b e = (s : Scope) → Puts before now (bracketed b (ex_pieces (read_ex s e)))

-- Of several expressions with commas between.
unfoldable pub PrintsExs : Text → Text → List PEx → Type 0
PrintsExs before now es = (s : Scope) → Puts before now (commas (map (λ e. ex_pieces (read_ex s e)) es))

-- Of a list.
unfoldable pub PrintsList : Text → Text → PList → Type 0
PrintsList before now l = (s : Scope) → Puts before now (ex_pieces (written (pure_list s l)))

-- Of generators and conditions with commas between.
unfoldable pub PrintsGens : Text → Text → List PGen → Type 0
PrintsGens before now gs = (s : Scope) → Puts before now (gens_pieces (gens_written (gens_of (map (pure_gen s) gs))))

-- A generator, or a condition, which stands in brackets where it is written as a pattern and a generator follows, as b says.
abbrev pub item_pieces : Bool → Item → Printer
item_pieces b (over_item a d) us = named a ∷ space ∷ sign colon ∷ space ∷ dom_pieces (dom_written d) us
item_pieces b (cond_item e) us = bracketed (b && is_written_as_pattern (written e)) (ex_pieces (written e)) us

-- Of a generator or condition alone.
unfoldable pub PrintsItem : Text → Text → Bool → PGen → Type 0
PrintsItem before now b g = (s : Scope) → Puts before now (item_pieces b (pure_gen s g))

-- Of a domain.
unfoldable pub PrintsDom : Text → Text → PDom → Type 0
PrintsDom before now d = (s : Scope) → Puts before now (dom_pieces (dom_written (pure_dom s d)))

-- A range.
abbrev pub bounds_pieces : Bounds → Printer
bounds_pieces (one_value, a ∷ []) us = ex_pieces (written a) us
bounds_pieces (both_ends, a ∷ b ∷ []) us = ex_pieces (written a) (sign dots ∷ ex_pieces (written b) us)
bounds_pieces (low_end, a ∷ []) us = ex_pieces (written a) (sign dots ∷ us)
bounds_pieces (high_end, b ∷ []) us = sign dots ∷ ex_pieces (written b) us
bounds_pieces r us = us

-- Of a range.
unfoldable pub PrintsRange : Text → Text → PRange → Type 0
PrintsRange before now r = (s : Scope) → Puts before now (bounds_pieces (pure_range s r))

-- Of a bound, or of none.
unfoldable pub PrintsBound : Text → Text → Option PEx → Type 0
PrintsBound before now None = now ≡ before
PrintsBound before now (Some e) = PrintsEx before now e

-- Of ranges with commas between.
unfoldable pub PrintsRanges : Text → Text → List PRange → Type 0
PrintsRanges before now rs = (s : Scope) → Puts before now (commas (map (λ r. bounds_pieces (pure_range s r)) rs))

-- ---- small texts

-- What stands before the constraint at an index.
abbrev pub line_before : ℕ → Text
line_before zero = codes "\n    "
line_before (suc i) = codes ",\n    "

-- An operator between its spaces.
abbrev pub spaced_operator : Op2 → Text
spaced_operator o = codes " " ++ operator_text o ++ codes " "

-- A word before its bracket.
abbrev pub opened_call : Fun → Text
opened_call f = function_text f ++ codes "("

-- ---- of a model's parts

-- Of domains with commas between.
unfoldable pub PrintsDoms : Text → Text → List PDom → Type 0
PrintsDoms before now ds = (s : Scope) → Puts before now (commas (map (λ d. dom_pieces (dom_written (pure_dom s d))) ds))

-- What stands before the domain of cells: the axes, where there are any.
abbrev pub axes_pieces : List Dom → Printer
axes_pieces [] us = us
axes_pieces (a ∷ axes) us =
    reserved matrix_word ∷ space ∷ reserved indexed_word ∷ space ∷ reserved by_word ∷ space
    ∷ within open_square close_square (commas (domains (doms_written (a ∷ axes)))) (space ∷ reserved of_word ∷ space ∷ us)

-- Of axes.
unfoldable pub PrintsAxes : Text → Text → List PDom → Type 0
PrintsAxes before now ds = (s : Scope) → Puts before now (axes_pieces (map (pure_dom s) ds))

-- Of a declaration behind a word.
unfoldable pub PrintsDecl : Text → Text → Text → PDecl → Type 0
PrintsDecl before now word d = (w : Word) (s : Scope) → word ≡ word_text w → Puts before now (declaration_line w (pure_decl s d))

-- Of declarations behind a word, in scopes that grow.
unfoldable pub PrintsDecls : Text → Text → Text → List PDecl → Type 0
PrintsDecls before now word ds = (w : Word) (add : Scope → TableDecl → Scope) (s : Scope) → word ≡ word_text w →
    Puts before now (declaration_lines w (pure_decls add s ds))

-- Of an objective.
unfoldable pub PrintsGoal : Text → Text → PGoal → Type 0
PrintsGoal before now g = (s : Scope) → Puts before now (goal_line (pure_goal s g))

-- Of constraints.
unfoldable pub PrintsRules : Text → Text → List PEx → Type 0
PrintsRules before now es = (s : Scope) → Puts before now (such_that_lines (map (pure_ex s) es))

-- Of the lines of a header.
unfoldable pub PrintsHead : Text → Text → List Text → Type 0
PrintsHead before now ls = Puts before now (head_lines ls)
