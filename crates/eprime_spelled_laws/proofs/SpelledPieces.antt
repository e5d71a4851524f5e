-- The pieces of a spelled model are separate, and their tokens have the model's parts.
use Rattle.std.proofs.Common.{◌≡◌, refl, sym, subst, true, not, List, [], ◌∷◌, ◌++◌, map}
use Rattle.std.specs.List.{list_all}
use Rattle.std.specs.Str.{is_utf8}
use Rattle.std.specs.Fmt.{digits}
use Rattle.ess_semantics.specs.Values.{Text}
use Rattle.ess_semantics.specs.Trees.{Ex}
use Rattle.ess_semantics.specs.Contexts.{Each}
use Rattle.ess_semantics.specs.DeclaredTables.{TableDecl}
use Rattle.ess_semantics.specs.ModelTrees.{Goal, no_goal, least, greatest, Model}
use Rattle.ess_semantics.proofs.Tests.{and-left, and-right}
use Rattle.ess_grammar.specs.ModelTexts.{Declarations, no_declarations, more_declarations, Objective, no_objective, minimising, maximising, Constraints, last_constraint, next_constraint, SuchThat, no_constraints, constraints, HasModelParts, model_parts}
use Rattle.ess_grammar.specs.Places.{is_line_feed}
use Rattle.ess_grammar.specs.Readable.{ReadableEx}
use Rattle.ess_grammar.specs.Words.{Word, given_word, find_word, comma, colon}
use Rattle.ess_print_laws.specs.Pieces.{Piece, space, next_line, text_of, tokens_of, reserved, sign, named}
use Rattle.ess_print_laws.specs.Expressions.{dom_pieces}
use Rattle.ess_print_laws.specs.Touching.{Separate}
use Rattle.ess_print_laws.proofs.Closing.{free-ends}
use Rattle.ess_print_laws.proofs.Expressions.{ex-printed, dom-derived}
use Rattle.ess_print_laws.proofs.SafeParts.{Safe, plain, spaced, free, safe}
use Rattle.ess_print_laws.proofs.SafeTrees.{ex-safe, dom-safe}
use Rattle.eprime_tree.specs.Written.{written, table_written}
use Rattle.eprime_tree.specs.ModelText.{language_line, head_lines, declaration_line, declaration_lines, goal_line, constraint_lines, such_that_lines, model_pieces, is_head_line}
use Rattle.eprime_spelled_laws.specs.SpelledModels.{read_tables, read_goal, parts_of, IsSpelledTable, IsSpelledGoal, IsSpelled}

-- Each is an expression of the grammar, as it is read.
abbrev AllReadable : List Ex → Type 0
AllReadable es = Each es (λ e. ReadableEx (written e))

-- ---- the pieces are separate

table-separate : (w : Word) (t : TableDecl) → IsSpelledTable t → (us : List Piece) → Separate us → Separate (declaration_line w t us)
table-separate w t h us k =
    let line : Safe (λ us. reserved w ∷ space ∷ named t.name ∷ space ∷ sign colon ∷ space ∷ dom_pieces (table_written t) us) =
    plain refl refl (spaced (plain h.named refl (spaced (free refl (safe (spaced (dom-safe (table_written t) h.domain))))))) in
    line.law (next_line ∷ us) refl k

tables-separate : (w : Word) (ts : List TableDecl) → Each ts IsSpelledTable → (us : List Piece) → Separate us →
    Separate (declaration_lines w ts us)
tables-separate w [] h us k = k
tables-separate w (t ∷ ts) h us k = table-separate w t h.0 (declaration_lines w ts us) (tables-separate w ts h.1 us k)

goal-separate : (g : Goal) → IsSpelledGoal g → (us : List Piece) → Separate us → Separate (goal_line g us)
goal-separate no_goal h us k = k
goal-separate (least e) h us k = (refl, refl, (ex-safe (written e) h).law (next_line ∷ us) refl k)
goal-separate (greatest e) h us k = (refl, refl, (ex-safe (written e) h).law (next_line ∷ us) refl k)

constraints-separate : (es : List Ex) → AllReadable es → Separate (constraint_lines es [])
constraints-separate [] h = tt
constraints-separate (e ∷ []) h = (ex-safe (written e) h.0).law (next_line ∷ []) refl tt
constraints-separate (e ∷ f ∷ es) h =
    (ex-safe (written e) h.0).law (sign comma ∷ constraint_lines (f ∷ es) []) refl
    (refl, free-ends comma (text_of (constraint_lines (f ∷ es) [])) refl, constraints-separate (f ∷ es) h.1)

such_that-separate : (es : List Ex) → AllReadable es → Separate (such_that_lines es [])
such_that-separate [] h = tt
such_that-separate (e ∷ []) h = (refl, refl, (refl, refl, constraints-separate (e ∷ []) h))
such_that-separate (e ∷ f ∷ es) h = (refl, refl, (refl, refl, constraints-separate (e ∷ f ∷ es) h))

head-separate : (ls : List Text) → list_all is_head_line ls ≡ true → (us : List Piece) → Separate us → Separate (head_lines ls us)
head-separate [] h us k = k
head-separate (l ∷ ls) h us k = (
  and-right (is_utf8 l) (list_all (λ b. not (is_line_feed b)) l) (and-left (is_head_line l) (list_all is_head_line ls) h),
  refl,
  head-separate ls (and-right (is_head_line l) (list_all is_head_line ls) h) us k,
)

language-separate : (us : List Piece) → Separate us → Separate (language_line us)
unfolding digits
language-separate us k = (refl, refl, (refl, refl, (refl, refl, (refl, refl, (refl, refl, k)))))

-- All pieces are separate.
pub spelled-separate : (head : List Text) (E : Model) → list_all is_head_line head ≡ true → IsSpelled E → Separate (model_pieces head E)
spelled-separate head E h w =
    let rules = such_that_lines E.rules [] in
    let goal = goal_line E.goal rules in
    let finds = declaration_lines find_word E.finds goal in
    let givens = declaration_lines given_word E.givens finds in
    language-separate (head_lines head givens)
    (head-separate head h givens
    (tables-separate given_word E.givens w.givens finds
    (tables-separate find_word E.finds w.finds goal (goal-separate E.goal w.goal rules (such_that-separate E.rules w.rules)))))

-- ---- the tokens are derived

tables-derived : (w : Word) (ts : List TableDecl) → Each ts IsSpelledTable → (us : List Piece) →
    Declarations w (read_tables ts) (tokens_of (declaration_lines w ts us)) (tokens_of us)
tables-derived w [] h us = no_declarations
tables-derived w (t ∷ ts) h us =
    more_declarations (dom-derived (table_written t) h.0.domain (next_line ∷ declaration_lines w ts us)) (tables-derived w ts h.1 us)

goal-derived : (g : Goal) → IsSpelledGoal g → (us : List Piece) → Objective (read_goal g) (tokens_of (goal_line g us)) (tokens_of us)
goal-derived no_goal h us = no_objective
goal-derived (least e) h us = minimising (((ex-printed (written e) h).reads (next_line ∷ us)).derivation)
goal-derived (greatest e) h us = maximising (((ex-printed (written e) h).reads (next_line ∷ us)).derivation)

constraints-derived : (e : Ex) (es : List Ex) → AllReadable (e ∷ es) →
    Constraints (map written (e ∷ es)) (tokens_of (constraint_lines (e ∷ es) []))
constraints-derived e [] h = last_constraint (((ex-printed (written e) h.0).reads (next_line ∷ [])).derivation)
constraints-derived e (f ∷ es) h =
    next_constraint (((ex-printed (written e) h.0).reads (sign comma ∷ constraint_lines (f ∷ es) [])).derivation)
    (constraints-derived f es h.1)

such_that-derived : (es : List Ex) → AllReadable es → SuchThat (map written es) (tokens_of (such_that_lines es []))
such_that-derived [] h = no_constraints
such_that-derived (e ∷ es) h = constraints (constraints-derived e es h)

-- Comments have no tokens.
head-tokens : (ls : List Text) (us : List Piece) → tokens_of (head_lines ls us) ≡ tokens_of us
head-tokens [] us = refl
head-tokens (l ∷ ls) us = head-tokens ls us

-- The tokens have the model's parts.
pub spelled-parts : (head : List Text) (E : Model) → IsSpelled E → HasModelParts (parts_of E) (tokens_of (model_pieces head E))
spelled-parts head E w =
    let rules = such_that_lines E.rules [] in
    let goal = goal_line E.goal rules in
    let finds = declaration_lines find_word E.finds goal in
    let givens = declaration_lines given_word E.givens finds in
    subst (λ ts. HasModelParts (parts_of E) (tokens_of (language_line []) ++ ts)) (sym (head-tokens head givens))
    (model_parts (tables-derived given_word E.givens w.givens finds) (tables-derived find_word E.finds w.finds goal)
    (goal-derived E.goal w.goal rules) (such_that-derived E.rules w.rules))
