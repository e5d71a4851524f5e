-- Laws of writing line by line.
use Rattle.std.proofs.Common.{◌≡◌, refl, sym, ap, ◌∙◌, ℕ, ◌+◌, ◌<◌, ◌≤◌, Bool, true, false, ◌||◌, List, [], ◌∷◌, ◌++◌, length, take, take_all, get_or, append_assoc, append-nil, Bor, subst}
use Rattle.std.specs.Prelude.{flat_map, codes}
use Rattle.std.specs.List.{concat}
use Rattle.std.proofs.lemmas.List.{take_more, map-append}
use Rattle.std.proofs.lemmas.Grind.{flat_map-append}
use Rattle.conjure_cli_laws.specs.SmallGrammar.{Statement, find, such_that, each_find, each_constraint}
use Rattle.conjure_cli_laws.specs.ModelText.{ended, with_commas, constraint_lines, header_find, header_representation}
use Rattle.conjure_cli.specs.Writing.{find_lines, plain_constraint, constraints_after, before_constraint, behind_constraints, is_some_list, plain_declaration, plain_text}
use Rattle.conjure_cli.specs.Lines.{statement, statements}
use Rattle.conjure_cli.specs.declared.line.Line.{Line}
use Rattle.conjure_cli.specs.declared.line.Line.TheVariants.{Find, SuchThat}

each_find-append : {A : Type 0} (f : List ℕ → ℕ → ℕ → A) (xs ys : List Statement) → each_find f (xs ++ ys) ≡ each_find f xs ++ each_find f ys
each_find-append f [] ys = refl
each_find-append f (find name low high ∷ xs) ys = ap (λ l. f name low high ∷ l) (each_find-append f xs ys)
each_find-append f (such_that number name ∷ xs) ys = each_find-append f xs ys

each_constraint-append : {A : Type 0} (f : ℕ → List ℕ → A) (xs ys : List Statement) → each_constraint f (xs ++ ys) ≡ each_constraint f xs ++ each_constraint f ys
each_constraint-append f [] ys = refl
each_constraint-append f (find name low high ∷ xs) ys = each_constraint-append f xs ys
each_constraint-append f (such_that number name ∷ xs) ys = ap (λ l. f number name ∷ l) (each_constraint-append f xs ys)

-- the statements of one line more
statements_more : (lines : List Line) (i : ℕ) (d : Line) (said : Statement) → i < length lines → statement (get_or lines i d) ≡ said
    → statements (take (i + 1) lines) ≡ statements (take i lines) ++ said ∷ []
statements_more lines i d said within says =
    ap statements (take_more lines i d within) ∙ map-append statement (take i lines) (get_or lines i d ∷ [])
    ∙ ap (λ s. statements (take i lines) ++ s ∷ []) says

-- the text of one line more
find_lines_more : (f : List ℕ → ℕ → ℕ → List ℕ) (lines : List Line) (i : ℕ) (d : Line) (said : Statement) → i < length lines → statement (get_or lines i d) ≡ said
    → find_lines f (statements (take (i + 1) lines)) ≡ find_lines f (statements (take i lines)) ++ find_lines f (said ∷ [])
find_lines_more f lines i d said within says =
    ap (find_lines f) (statements_more lines i d said within says)
    ∙ ap (flat_map ended) (each_find-append f (statements (take i lines)) (said ∷ []))
    ∙ flat_map-append ended (each_find f (statements (take i lines))) (each_find f (said ∷ []))

-- the text after a line more that finds a set
pub next_find : (f : List ℕ → ℕ → ℕ → List ℕ) (lines : List Line) (i : ℕ) (d : Line) (name : Bor (List ℕ)) (low high : ℕ) (before text after : List ℕ)
    → i < length lines → get_or lines i d ≡ Find name low high
    → text ≡ before ++ find_lines f (statements (take i lines))
    → after ≡ text ++ ended (f name.now low high)
    → after ≡ before ++ find_lines f (statements (take (i + 1) lines))
next_find f lines i d name low high before text after within says so_far last =
    last ∙ ap (λ t. t ++ ended (f name.now low high)) so_far
    ∙ append_assoc before (find_lines f (statements (take i lines))) (ended (f name.now low high))
    ∙ ap (λ t. before ++ t)
    (ap (λ t. find_lines f (statements (take i lines)) ++ t) (sym (append-nil (ended (f name.now low high))))
    ∙ sym (find_lines_more f lines i d (find name.now low high) within (ap statement says)))

-- the text after a line more that finds none
pub next_other : (f : List ℕ → ℕ → ℕ → List ℕ) (lines : List Line) (i : ℕ) (d : Line) (number : ℕ) (name : Bor (List ℕ)) (before text after : List ℕ)
    → i < length lines → get_or lines i d ≡ SuchThat number name
    → text ≡ before ++ find_lines f (statements (take i lines))
    → after ≡ text
    → after ≡ before ++ find_lines f (statements (take (i + 1) lines))
next_other f lines i d number name before text after within says so_far last =
    last ∙ so_far
    ∙ ap (λ t. before ++ t)
    (sym (append-nil (find_lines f (statements (take i lines))))
    ∙ sym (find_lines_more f lines i d (such_that number name.now) within (ap statement says)))

-- the constraints that the statements of the lines make
abbrev pub constraints : List Line → List (List ℕ)
constraints lines = each_constraint plain_constraint (statements lines)

or-true : (b : Bool) → (b || true) ≡ true
or-true true = refl
or-true false = refl

or-false : (b : Bool) → (b || false) ≡ b
or-false true = refl
or-false false = refl

-- a constraint more
constraints_after-more : (some : Bool) (made : List (List ℕ)) (last : List ℕ)
    → constraints_after some (made ++ last ∷ []) ≡ (constraints_after some made ++ before_constraint (some || is_some_list made)) ++ last
constraints_after-more some [] last = append-nil (before_constraint some ++ last) ∙ ap (λ b. before_constraint b ++ last) (sym (or-false some))
constraints_after-more some (line ∷ made) last =
    ap (λ t. (before_constraint some ++ line) ++ t) (constraints_after-more true made last)
    ∙ sym (append_assoc (before_constraint some ++ line) (constraints_after true made ++ before_constraint true) last)
    ∙ ap (λ t. t ++ last) (sym (append_assoc (before_constraint some ++ line) (constraints_after true made) (before_constraint true)))
    ∙ ap (λ b. (((before_constraint some ++ line) ++ constraints_after true made) ++ before_constraint b) ++ last) (sym (or-true some))

is_some-more : (made : List (List ℕ)) (last : List ℕ) → is_some_list (made ++ last ∷ []) ≡ true
is_some-more [] last = refl
is_some-more (line ∷ made) last = refl

constraints_more : (lines : List Line) (i : ℕ) (d : Line) (said : Statement) → i < length lines → statement (get_or lines i d) ≡ said
    → constraints (take (i + 1) lines) ≡ constraints (take i lines) ++ each_constraint plain_constraint (said ∷ [])
constraints_more lines i d said within says =
    ap (each_constraint plain_constraint) (statements_more lines i d said within says)
    ∙ each_constraint-append plain_constraint (statements (take i lines)) (said ∷ [])

-- what has been written of the constraints, and whether there were some
pub record Written (before text : List ℕ) (some : Bool) (made : List (List ℕ)) : Type 0 where
  pub text_is : text ≡ before ++ constraints_after false made
  pub some_is : some ≡ is_some_list made

written-more : (before text after : List ℕ) (some : Bool) (made : List (List ℕ)) (last : List ℕ)
    → Written before text some made → after ≡ (text ++ before_constraint some) ++ last → Written before after true (made ++ last ∷ [])
written-more before text after some made last so_far next = record {
  text_is = next
      ∙ ap (λ t. (t ++ before_constraint some) ++ last) so_far.text_is
      ∙ ap (λ b. ((before ++ constraints_after false made) ++ before_constraint b) ++ last) so_far.some_is
      ∙ ap (λ t. t ++ last) (append_assoc before (constraints_after false made) (before_constraint (is_some_list made)))
      ∙ append_assoc before (constraints_after false made ++ before_constraint (is_some_list made)) last
      ∙ ap (λ t. before ++ t) (sym (constraints_after-more false made last));
  some_is = sym (is_some-more made last);
}

pub next_constraint : (lines : List Line) (i : ℕ) (d : Line) (number : ℕ) (name : Bor (List ℕ)) (before text after : List ℕ) (some : Bool)
    → i < length lines → get_or lines i d ≡ SuchThat number name
    → Written before text some (constraints (take i lines))
    → after ≡ (text ++ before_constraint some) ++ plain_constraint number name.now
    → Written before after true (constraints (take (i + 1) lines))
next_constraint lines i d number name before text after some within says so_far next =
    subst (Written before after true) (sym (constraints_more lines i d (such_that number name.now) within (ap statement says)))
    (written-more before text after some (constraints (take i lines)) (plain_constraint number name.now) so_far next)

pub no_constraint : (lines : List Line) (i : ℕ) (d : Line) (name : Bor (List ℕ)) (low high : ℕ) (before text after : List ℕ) (some now : Bool)
    → i < length lines → get_or lines i d ≡ Find name low high
    → Written before text some (constraints (take i lines))
    → after ≡ text → now ≡ some
    → Written before after now (constraints (take (i + 1) lines))
no_constraint lines i d name low high before text after some now within says so_far same still =
    let e : constraints (take (i + 1) lines) ≡ constraints (take i lines)
    = constraints_more lines i d (find name.now low high) within (ap statement says) ∙ append-nil (constraints (take i lines)) in
    record { text_is = same ∙ so_far.text_is ∙ ap (λ m. before ++ constraints_after false m) (sym e); some_is = still ∙ so_far.some_is ∙ ap is_some_list (sym e) }

-- commas and line feeds
commas-ended : (line : List ℕ) (lines : List (List ℕ)) → flat_map ended (with_commas (line ∷ lines)) ≡ (line ++ constraints_after true lines) ++ 10 ∷ []
commas-ended line [] = append-nil (line ++ 10 ∷ []) ∙ ap (λ t. t ++ 10 ∷ []) (sym (append-nil line))
commas-ended line (next ∷ lines) =
    ap (λ t. ended (line ++ codes ",") ++ t) (commas-ended next lines) ∙ regrouped line next (constraints_after true lines) (10 ∷ [])
  where
    regrouped : (a b c d : List ℕ) → ((a ++ codes ",") ++ 10 ∷ []) ++ ((b ++ c) ++ d) ≡ (a ++ (((codes "," ++ 10 ∷ []) ++ b) ++ c)) ++ d
    regrouped a b c d = simp append_assoc

-- all constraints
pub all_written : (before text after : List ℕ) (some : Bool) (made : List (List ℕ)) → Written before text some made
    → after ≡ text ++ behind_constraints some → after ≡ before ++ flat_map ended (constraint_lines made)
all_written before text after some made so_far next =
    next ∙ ap (λ t. t ++ behind_constraints some) so_far.text_is
    ∙ ap (λ b. (before ++ constraints_after false made) ++ behind_constraints b) so_far.some_is
    ∙ append_assoc before (constraints_after false made) (behind_constraints (is_some_list made))
    ∙ ap (λ t. before ++ t) (whole made)
  where
    whole : (made : List (List ℕ)) → constraints_after false made ++ behind_constraints (is_some_list made) ≡ flat_map ended (constraint_lines made)
    whole [] = refl
    whole (line ∷ lines) =
        ap (λ t. t ++ 10 ∷ []) (append_assoc (codes "such that" ++ 10 ∷ []) line (constraints_after true lines))
        ∙ ap (λ t. ended (codes "such that") ++ t) (sym (commas-ended line lines))

-- a declaration, piece by piece
pub declared : (before t1 t2 t3 t4 t5 cell within : List ℕ) → t1 ≡ before ++ codes "find " → t2 ≡ t1 ++ cell
    → t3 ≡ t2 ++ codes " : matrix indexed by [" → t4 ≡ t3 ++ within → t5 ≡ t4 ++ (codes "] of bool" ++ 10 ∷ [])
    → t5 ≡ before ++ ended (concat (codes "find " ∷ cell ∷ codes " : matrix indexed by [" ∷ within ∷ codes "] of bool" ∷ []))
declared before t1 t2 t3 t4 t5 cell within e1 e2 e3 e4 e5 = rw (e5, e4, e3, e2, e1) (simp append_assoc)

-- six lists of lines in a row
six_ended : (a b c d e f : List (List ℕ)) → flat_map ended (a ++ b ++ c ++ d ++ e ++ f)
    ≡ flat_map ended a ++ flat_map ended b ++ flat_map ended c ++ flat_map ended d ++ flat_map ended e ++ flat_map ended f
six_ended a b c d e f =
    flat_map-append ended (a ++ b ++ c ++ d ++ e) f
    ∙ ap (λ t. t ++ flat_map ended f) (flat_map-append ended (a ++ b ++ c ++ d) e
    ∙ ap (λ t. t ++ flat_map ended e) (flat_map-append ended (a ++ b ++ c) d
    ∙ ap (λ t. t ++ flat_map ended d) (flat_map-append ended (a ++ b) c
    ∙ ap (λ t. t ++ flat_map ended c) (flat_map-append ended a b))))

-- the text of a model, part by part
pub plain_text_by_parts : (said : List Statement) (t1 t2 t3 t4 t5 t6 : List ℕ)
    → t1 ≡ (codes "language ESSENCE' 1.0" ++ 10 ∷ []) ++ (codes "$ conjure-header 1" ++ 10 ∷ [])
    → t2 ≡ t1 ++ find_lines header_find said
    → t3 ≡ t2 ++ find_lines header_representation said
    → t4 ≡ t3 ++ (codes "$ end-header" ++ 10 ∷ [])
    → t5 ≡ t4 ++ find_lines plain_declaration said
    → t6 ≡ t5 ++ flat_map ended (constraint_lines (each_constraint plain_constraint said))
    → t6 ≡ plain_text said
unfolding plain_text
plain_text_by_parts said t1 t2 t3 t4 t5 t6 e1 e2 e3 e4 e5 e6 =
    rw (e6, e5, e4, e3, e2, e1)
    (sym (six_ended (codes "language ESSENCE' 1.0" ∷ codes "$ conjure-header 1" ∷ []) (each_find header_find said)
    (each_find header_representation said) (codes "$ end-header" ∷ []) (each_find plain_declaration said)
    (constraint_lines (each_constraint plain_constraint said))))

-- all lines are taken
pub written_all : (lines : List Line) (i : ℕ) (before text : List ℕ) (some : Bool) → length lines ≤ i
    → Written before text some (constraints (take i lines)) → Written before text some (constraints lines)
written_all lines i before text some all so_far = subst (λ ls. Written before text some (constraints ls)) (take_all i lines all) so_far
