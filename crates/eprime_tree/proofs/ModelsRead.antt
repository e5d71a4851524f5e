-- The pieces of a readable model are separate, and the rules derive exactly that model from their tokens.
use Rattle.std.proofs.Common.{◌≡◌, refl, sym, subst, true, not, List, [], ◌∷◌, ◌++◌, map}
use Rattle.std.specs.List.{list_all}
use Rattle.std.specs.Str.{is_utf8}
use Rattle.std.specs.Fmt.{digits}
use Rattle.ess_semantics.specs.Values.{Text}
use Rattle.ess_semantics.specs.Trees.{Ex, Dom}
use Rattle.ess_semantics.specs.DeclaredTables.{TableDecl}
use Rattle.ess_semantics.specs.ModelTrees.{Goal, no_goal, least, greatest, Model}
use Rattle.ess_semantics.proofs.Tests.{and-left, and-right}
use Rattle.ess_grammar.specs.Models.{Scope, empty_scope, with_given, with_find, scope_behind, are_model_tables, is_readable_model}
use Rattle.ess_grammar.specs.ModelTexts.{Declarations, no_declarations, more_declarations, Objective, no_objective, minimising, maximising, Constraints, last_constraint, next_constraint, SuchThat, no_constraints, constraints, HasModelParts, model_parts, IsModel}
use Rattle.ess_grammar.specs.Places.{is_line_feed}
use Rattle.ess_grammar.specs.Readable.{is_name_token, ReadableEx, ReadableDom, ReadableDoms}
use Rattle.ess_grammar.specs.Words.{Word, given_word, find_word, comma, colon}
use Rattle.ess_print_laws.specs.Pieces.{Piece, space, next_line, text_of, tokens_of, reserved, sign, named}
use Rattle.ess_print_laws.specs.Expressions.{dom_pieces}
use Rattle.ess_print_laws.specs.Touching.{Separate}
use Rattle.ess_print_laws.proofs.Closing.{free-ends}
use Rattle.ess_print_laws.proofs.Expressions.{ex-printed, dom-derived}
use Rattle.ess_print_laws.proofs.SafeParts.{Safe, plain, spaced, free, safe}
use Rattle.ess_print_laws.proofs.SafeTrees.{ex-safe, dom-safe}
use Rattle.eprime_tree.specs.Written.{written, dom_written, doms_written, matrix_over, table_written}
use Rattle.eprime_tree.specs.ModelText.{language_line, head_lines, declaration_line, declaration_lines, goal_line, constraint_lines, such_that_lines, model_pieces, is_head_line}
use Rattle.eprime_tree.proofs.ReadableModels.{Each, ReadableGoal, first-table, tables-readable, read_tables, goal-readable, read_goal, rules-readable, whole_scope, parts-are, read_model, model-back}

-- ---- tables

doms-readable : (ds : List Dom) → Each (λ d. ReadableDom (dom_written d)) ds → ReadableDoms (doms_written ds)
doms-readable [] h = tt
doms-readable (d ∷ ds) h = (h.0, doms-readable ds h.1)

matrix-readable : (ds : List Dom) (d : Dom) → Each (λ d. ReadableDom (dom_written d)) ds → ReadableDom (dom_written d) → ReadableDom (matrix_over ds d)
matrix-readable [] d h k = k
matrix-readable (x ∷ xs) d h k = (refl, doms-readable (x ∷ xs) h, k)

-- What is used of a table: its name is a token, and its domain as it is read is one of the grammar.
record Told (t : TableDecl) : Type 0 where
  named : is_name_token t.name ≡ true
  readable : ReadableDom (table_written t)

tables-told : (add : Scope → TableDecl → Scope) (s : Scope) (ts : List TableDecl) → are_model_tables add s ts ≡ true → Each Told ts
tables-told add s [] h = tt
tables-told add s (t ∷ ts) h =
    let p = first-table add s t ts h in
    let r = tables-readable add s (t ∷ ts) h in
    (record { named = p.0.named; readable = matrix-readable t.axes t.cell r.0.0 r.0.1 }, tables-told add (add s t) ts p.1)

-- ---- the pieces are separate

table-separate : (w : Word) (t : TableDecl) → Told t → (us : List Piece) → Separate us → Separate (declaration_line w t us)
table-separate w t h us k =
    let line : Safe (λ us. reserved w ∷ space ∷ named t.name ∷ space ∷ sign colon ∷ space ∷ dom_pieces (table_written t) us) =
    plain refl refl (spaced (plain h.named refl (spaced (free refl (safe (spaced (dom-safe (table_written t) h.readable))))))) in
    line.law (next_line ∷ us) refl k

tables-separate : (w : Word) (ts : List TableDecl) → Each Told ts → (us : List Piece) → Separate us → Separate (declaration_lines w ts us)
tables-separate w [] h us k = k
tables-separate w (t ∷ ts) h us k = table-separate w t h.0 (declaration_lines w ts us) (tables-separate w ts h.1 us k)

goal-separate : (g : Goal) → ReadableGoal g → (us : List Piece) → Separate us → Separate (goal_line g us)
goal-separate no_goal h us k = k
goal-separate (least e) h us k = (refl, refl, (ex-safe (written e) h).law (next_line ∷ us) refl k)
goal-separate (greatest e) h us k = (refl, refl, (ex-safe (written e) h).law (next_line ∷ us) refl k)

constraints-separate : (es : List Ex) → Each (λ e. ReadableEx (written e)) es → Separate (constraint_lines es [])
constraints-separate [] h = tt
constraints-separate (e ∷ []) h = (ex-safe (written e) h.0).law (next_line ∷ []) refl tt
constraints-separate (e ∷ f ∷ es) h =
    (ex-safe (written e) h.0).law (sign comma ∷ constraint_lines (f ∷ es) []) refl (refl, free-ends comma (text_of (constraint_lines (f ∷ es) [])) refl, constraints-separate (f ∷ es) h.1)

such_that-separate : (es : List Ex) → Each (λ e. ReadableEx (written e)) es → Separate (such_that_lines es [])
such_that-separate [] h = tt
such_that-separate (e ∷ []) h = (refl, refl, (refl, refl, constraints-separate (e ∷ []) h))
such_that-separate (e ∷ f ∷ es) h = (refl, refl, (refl, refl, constraints-separate (e ∷ f ∷ es) h))

head-separate : (ls : List Text) → list_all is_head_line ls ≡ true → (us : List Piece) → Separate us → Separate (head_lines ls us)
head-separate [] h us k = k
head-separate (l ∷ ls) h us k =
    let q = and-left (is_head_line l) (list_all is_head_line ls) h in
    (and-right (is_utf8 l) (list_all (λ b. not (is_line_feed b)) l) q, refl, head-separate ls (and-right (is_head_line l) (list_all is_head_line ls) h) us k)

language-separate : (us : List Piece) → Separate us → Separate (language_line us)
unfolding digits
language-separate us k = (refl, refl, (refl, refl, (refl, refl, (refl, refl, (refl, refl, k)))))

pub model-separate : (head : List Text) (m : Model) → list_all is_head_line head ≡ true → is_readable_model m ≡ true → Separate (model_pieces head m)
model-separate head m h k =
    let p = parts-are m k in
    let rules = such_that_lines m.rules [] in
    let goal = goal_line m.goal rules in
    let finds = declaration_lines find_word m.finds goal in
    let givens = declaration_lines given_word m.givens finds in
    language-separate (head_lines head givens)
    (head-separate head h givens
    (tables-separate given_word m.givens (tables-told with_given empty_scope m.givens p.givens) finds
    (tables-separate find_word m.finds (tables-told with_find (scope_behind with_given empty_scope m.givens) m.finds p.finds) goal
    (goal-separate m.goal (goal-readable (whole_scope m) m.goal p.goal) rules
    (such_that-separate m.rules (rules-readable (whole_scope m) m.rules p.rules))))))

-- ---- the tokens are derived

tables-derived : (w : Word) (ts : List TableDecl) → Each Told ts → (us : List Piece) → Declarations w (read_tables ts) (tokens_of (declaration_lines w ts us)) (tokens_of us)
tables-derived w [] h us = no_declarations
tables-derived w (t ∷ ts) h us = more_declarations (dom-derived (table_written t) h.0.readable (next_line ∷ declaration_lines w ts us)) (tables-derived w ts h.1 us)

goal-derived : (g : Goal) → ReadableGoal g → (us : List Piece) → Objective (read_goal g) (tokens_of (goal_line g us)) (tokens_of us)
goal-derived no_goal h us = no_objective
goal-derived (least e) h us = minimising (((ex-printed (written e) h).reads (next_line ∷ us)).derivation)
goal-derived (greatest e) h us = maximising (((ex-printed (written e) h).reads (next_line ∷ us)).derivation)

constraints-derived : (e : Ex) (es : List Ex) → Each (λ e. ReadableEx (written e)) (e ∷ es) → Constraints (map written (e ∷ es)) (tokens_of (constraint_lines (e ∷ es) []))
constraints-derived e [] h = last_constraint (((ex-printed (written e) h.0).reads (next_line ∷ [])).derivation)
constraints-derived e (f ∷ es) h = next_constraint (((ex-printed (written e) h.0).reads (sign comma ∷ constraint_lines (f ∷ es) [])).derivation) (constraints-derived f es h.1)

such_that-derived : (es : List Ex) → Each (λ e. ReadableEx (written e)) es → SuchThat (map written es) (tokens_of (such_that_lines es []))
such_that-derived [] h = no_constraints
such_that-derived (e ∷ es) h = constraints (constraints-derived e es h)

-- comments have no tokens
head-tokens : (ls : List Text) (us : List Piece) → tokens_of (head_lines ls us) ≡ tokens_of us
head-tokens [] us = refl
head-tokens (l ∷ ls) us = head-tokens ls us

pub model-derived : (head : List Text) (m : Model) → is_readable_model m ≡ true → IsModel m (tokens_of (model_pieces head m))
model-derived head m h =
    let p = parts-are m h in
    let rules = such_that_lines m.rules [] in
    let goal = goal_line m.goal rules in
    let finds = declaration_lines find_word m.finds goal in
    let givens = declaration_lines given_word m.givens finds in
    record {
      parts = read_model m;
      read = subst (λ ts. HasModelParts (read_model m) (tokens_of (language_line []) ++ ts)) (sym (head-tokens head givens))
          (model_parts (tables-derived given_word m.givens (tables-told with_given empty_scope m.givens p.givens) finds)
          (tables-derived find_word m.finds (tables-told with_find (scope_behind with_given empty_scope m.givens) m.finds p.finds) goal)
          (goal-derived m.goal (goal-readable (whole_scope m) m.goal p.goal) rules)
          (such_that-derived m.rules (rules-readable (whole_scope m) m.rules p.rules)));
      is = model-back m h;
      readable = h;
    }
