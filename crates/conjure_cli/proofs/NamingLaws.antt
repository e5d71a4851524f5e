-- Names that fit, and the cells of names that fit.
use Rattle.std.proofs.Common.{◌≡◌, refl, sym, ap, ◌∙◌, subst, ℕ, Bool, true, false, not, ◌&&◌, ◌||◌, List, [], ◌∷◌, ◌++◌, length, map, append-nil, append_assoc, arith}
use Rattle.std.specs.Prelude.{if◌then◌else◌, codes, bytes_eq, reverse, flat_map, Some, None}
use Rattle.std.specs.List.{list_all}
use Rattle.std.proofs.lemmas.Slice.Eq.{bytes_eq-Decides}
use Rattle.std.proofs.lemmas.List.{append_cancel_right, reverse-append}
use Rattle.std.proofs.Math.Bool.{or_assoc}
use Rattle.conjure_cli_laws.specs.Words.{is_among}
use Rattle.conjure_cli_laws.specs.SmallGrammar.{Statement, find, such_that, is_name_byte, fits_after, found_names, each_find, each_constraint, SayEach, Reads, IsInSmallGrammar, lines_of}
use Rattle.conjure_cli.specs.Reading.{fit_from, read_lines}
use Rattle.conjure_cli_laws.specs.ModelText.{free_name, cell_name, cells_from, cells, cell_of, declaration, constraint, header_find, header_representation, constraint_lines, lines_with, model_text, ended, IsModelOf}
use Rattle.conjure_cli.specs.Writing.{plain_cell, plain_text}
use Rattle.conjure_cli.proofs.ReadingLaws.{both, untrue, name_bytes, lines-found, lines-here}

-- ---- statements that fit

-- the names of one statement more
found-cons : (first : Statement) (more : List Statement) → found_names (first ∷ more) ≡ found_names (first ∷ []) ++ found_names more
found-cons (find name low high) more = refl
found-cons (such_that number name) more = refl

-- where statements fit one after another, each fits after those before it
pub fit-each : (known : List (List ℕ)) (said before : List Statement) (statement : Statement) (after : List Statement)
    → fit_from known said ≡ true → said ≡ before ++ statement ∷ after → fits_after (known ++ found_names before) statement ≡ true
fit-each known [] [] statement after fits e = cc
fit-each known [] (b ∷ before) statement after fits e = cc
fit-each known (s ∷ said) [] statement after fits e =
    let same : s ≡ statement = cc in
    ap (λ k. fits_after k statement) (append-nil known) ∙ ap (fits_after known) (sym same) ∙ (both (fits_after known s) _ fits).0
fit-each known (s ∷ said) (b ∷ before) statement after fits e =
    let same : s ≡ b = cc in
    let rest : said ≡ before ++ statement ∷ after = cc in
    ap (λ k. fits_after k statement)
    (ap (λ t. known ++ t) (found-cons b before) ∙ sym (append_assoc known (found_names (b ∷ [])) (found_names before))
    ∙ ap (λ x. (known ++ found_names (x ∷ [])) ++ found_names before) (sym same))
    ∙ fit-each (known ++ found_names (s ∷ [])) said before statement after (both (fits_after known s) _ fits).1 rest

-- where each statement fits after those before it, they fit one after another
pub each-fit : (known : List (List ℕ)) (said : List Statement)
    → ((before : List Statement) (statement : Statement) (after : List Statement) → said ≡ before ++ statement ∷ after
    → fits_after (known ++ found_names before) statement ≡ true)
    → fit_from known said ≡ true
each-fit known [] each = refl
each-fit known (s ∷ said) each =
    ap (λ b. b && fit_from (known ++ found_names (s ∷ [])) said)
    (ap (λ k. fits_after k s) (sym (append-nil known)) ∙ each [] s said refl)
    ∙ each-fit (known ++ found_names (s ∷ [])) said (λ before statement after e.
    ap (λ k. fits_after k statement)
    (append_assoc known (found_names (s ∷ [])) (found_names before) ∙ ap (λ t. known ++ t) (sym (found-cons s before)))
    ∙ each (s ∷ before) statement after (ap (λ t. s ∷ t) e))

-- ---- names among names

same_bytes : (a b : List ℕ) → bytes_eq a b ≡ true → a ≡ b
same_bytes a b h = (bytes_eq-Decides a b).0 h

bytes_same : (a : List ℕ) → bytes_eq a a ≡ true
bytes_same a = (bytes_eq-Decides a a).1 refl

other_bytes : (a b : List ℕ) → (a ≡ b → ⊥) → bytes_eq a b ≡ false
other_bytes a b apart = step (bytes_eq a b) refl
  where
    step : (is : Bool) → bytes_eq a b ≡ is → is ≡ false
    step true is = absurd (apart (same_bytes a b is))
    step false is = refl

neither : (a b : Bool) → (a || b) ≡ false → (a ≡ false) × (b ≡ false)
neither true b h = cc
neither false b h = (refl, h)

among-append : (names more : List (List ℕ)) (name : List ℕ) → is_among (names ++ more) name ≡ (is_among names name || is_among more name)
among-append [] more name = refl
among-append (known ∷ names) more name =
    ap (λ b. bytes_eq known name || b) (among-append names more name) ∙ sym (or_assoc (bytes_eq known name) (is_among names name) (is_among more name))

-- ---- cells

-- a name of name bytes has no `_`, and each cell has one
no_cell : (name other : List ℕ) → list_all is_name_byte name ≡ true → name ≡ plain_cell other → ⊥
no_cell name other all e = go other (ap (list_all is_name_byte) (sym e) ∙ all)
  where
    go : (front : List ℕ) → list_all is_name_byte (front ++ codes "_Occurrence") ≡ true → ⊥
    go [] h = cc
    go (b ∷ front) h = go front (both (is_name_byte b) (list_all is_name_byte (front ++ codes "_Occurrence")) h).1

apart_from_word : (other : List ℕ) → codes "alldifferent_except" ≡ plain_cell other → ⊥
apart_from_word other e =
    let last : 116 ≡ 101 = ap first_byte (ap reverse e ∙ reverse-append other (codes "_Occurrence")) in absurd (omega (arith, last))
  where
    first_byte : List ℕ → ℕ
    first_byte [] = 0
    first_byte (b ∷ bytes) = b

plain_cells-apart : (a b : List ℕ) → bytes_eq a b ≡ false → bytes_eq (plain_cell a) (plain_cell b) ≡ false
plain_cells-apart a b apart = other_bytes (plain_cell a) (plain_cell b)
    (λ e. let same : a ≡ b = append_cancel_right a b (codes "_Occurrence") e in
    let yes : bytes_eq a b ≡ true = ap (bytes_eq a) (sym same) ∙ bytes_same a in cc)

-- a cell's name that isn't taken stays
cell_free : (taken : List (List ℕ)) (name : List ℕ) → is_among taken (plain_cell name) ≡ false → cell_name taken name ≡ plain_cell name
cell_free [] name free = refl
cell_free (t ∷ taken) name free =
    ap (λ b. if b then free_name (t ∷ taken) (length taken) (plain_cell name ++ codes "_") else plain_cell name) free

-- each name is new after those before it
abbrev AreNew : List (List ℕ) → List (List ℕ) → Type 0
AreNew earlier [] = Unit {0}
AreNew earlier (name ∷ names) = (is_among earlier name ≡ false) × AreNew (earlier ++ name ∷ []) names

-- each is of name bytes
abbrev AreOfNameBytes : List (List ℕ) → Type 0
AreOfNameBytes [] = Unit {0}
AreOfNameBytes (name ∷ names) = (list_all is_name_byte name ≡ true) × AreOfNameBytes names

-- the cells of names that aren't among the earlier ones are free
abbrev LeavesFree : List (List ℕ) → List (List ℕ) → Type 0
LeavesFree taken earlier = (name : List ℕ) → list_all is_name_byte name ≡ true → is_among earlier name ≡ false → is_among taken (plain_cell name) ≡ false

abbrev with_plain_cell : List ℕ → List ℕ × List ℕ
with_plain_cell name = (name, plain_cell name)

cells_plain : (taken earlier names : List (List ℕ)) → AreNew earlier names → AreOfNameBytes names → LeavesFree taken earlier
    → cells_from taken names ≡ map with_plain_cell names
cells_plain taken earlier [] new good free = refl
cells_plain taken earlier (name ∷ names) new good free =
    let cell : cell_name taken name ≡ plain_cell name = cell_free taken name (free name good.0 new.0) in
    ap (λ c. (name, c) ∷ cells_from (c ∷ taken) names) cell
    ∙ ap (λ t. with_plain_cell name ∷ t) (cells_plain (plain_cell name ∷ taken) (earlier ++ name ∷ []) names new.1 good.1 still)
  where
    still : LeavesFree (plain_cell name ∷ taken) (earlier ++ name ∷ [])
    still other is_good later =
        let parts = neither (is_among earlier other) (is_among (name ∷ []) other) (sym (among-append earlier (name ∷ []) other) ∙ later) in
        let apart : bytes_eq name other ≡ false = (neither (bytes_eq name other) false parts.1).0 in
        ap (λ b. b || is_among taken (plain_cell other)) (plain_cells-apart name other apart) ∙ free other is_good parts.0

no_name_taken : (names : List (List ℕ)) (other : List ℕ) → AreOfNameBytes names → is_among names (plain_cell other) ≡ false
no_name_taken [] other good = refl
no_name_taken (name ∷ names) other good =
    ap (λ b. b || is_among names (plain_cell other)) (other_bytes name (plain_cell other) (no_cell name other good.0)) ∙ no_name_taken names other good.1

at_first_free : (names : List (List ℕ)) → AreOfNameBytes names → LeavesFree (codes "alldifferent_except" ∷ names) []
at_first_free names good other is_good none =
    ap (λ b. b || is_among names (plain_cell other)) (other_bytes (codes "alldifferent_except") (plain_cell other) (apart_from_word other))
    ∙ no_name_taken names other good

cell_of-plain : (names : List (List ℕ)) (name : List ℕ) → is_among names name ≡ true → cell_of (map with_plain_cell names) name ≡ plain_cell name
cell_of-plain [] name h = cc
cell_of-plain (known ∷ names) name h = step (bytes_eq known name) refl h (λ k. cell_of-plain names name k)
  where
    step : (same : Bool) → bytes_eq known name ≡ same → (same || is_among names name) ≡ true
        → (is_among names name ≡ true → cell_of (map with_plain_cell names) name ≡ plain_cell name)
        → (if same then plain_cell known else cell_of (map with_plain_cell names) name) ≡ plain_cell name
    step true same h further = ap plain_cell (same_bytes known name same)
    step false same h further = further h

-- ---- statements and their names

new_from_fit : (known : List (List ℕ)) (said : List Statement) → fit_from known said ≡ true → AreNew known (found_names said)
new_from_fit known [] fits = tt
new_from_fit known (find name low high ∷ said) fits = (
  untrue (is_among known name) (both (not (is_among known name)) _ fits).0,
  new_from_fit (known ++ name ∷ []) said (both (not (is_among known name)) _ fits).1,
)
new_from_fit known (such_that number name ∷ said) fits =
    subst (λ k. AreNew k (found_names said)) (append-nil known)
    (new_from_fit (known ++ []) said (both (is_among known name) _ fits).1)

good_from_lines : (lines : List (List ℕ)) (said : List Statement) → SayEach lines said → AreOfNameBytes (found_names said)
good_from_lines [] [] says = tt
good_from_lines [] (statement ∷ said) says = absurd says
good_from_lines (line ∷ lines) [] says = absurd says
good_from_lines (line ∷ lines) (find name low high ∷ said) says = (name_bytes name says.0.named, good_from_lines lines said says.1)
good_from_lines (line ∷ lines) (such_that number name ∷ said) says = good_from_lines lines said says.1

-- f and g agree on the names of the statements
abbrev Agree : (List ℕ → List ℕ) → (List ℕ → List ℕ) → List Statement → Type 0
Agree f g [] = Unit {0}
Agree f g (find name low high ∷ said) = (f name ≡ g name) × Agree f g said
Agree f g (such_that number name ∷ said) = (f name ≡ g name) × Agree f g said

or-yes : (a b : Bool) → b ≡ true → (a || b) ≡ true
or-yes true b h = refl
or-yes false b h = h

yes-or : (a b : Bool) → a ≡ true → (a || b) ≡ true
yes-or true b h = refl
yes-or false b h = cc

agree_on : (f g : List ℕ → List ℕ) (known : List (List ℕ)) (said : List Statement) → fit_from known said ≡ true
    → ((name : List ℕ) → is_among (known ++ found_names said) name ≡ true → f name ≡ g name) → Agree f g said
agree_on f g known [] fits same = tt
agree_on f g known (find name low high ∷ said) fits same = (
  same name (among-append known (name ∷ found_names said) name
      ∙ or-yes (is_among known name) (bytes_eq name name || is_among (found_names said) name) (yes-or (bytes_eq name name) _ (bytes_same name))),
  agree_on f g (known ++ name ∷ []) said (both (not (is_among known name)) _ fits).1
      (λ other among. same other (ap (λ k. is_among k other) (sym (append_assoc known (name ∷ []) (found_names said))) ∙ among)),
)
agree_on f g known (such_that number name ∷ said) fits same = (
  same name (among-append known (found_names said) name ∙ yes-or (is_among known name) _ (both (is_among known name) _ fits).0),
  agree_on f g (known ++ []) said (both (is_among known name) _ fits).1
      (λ other among. same other (ap (λ k. is_among (k ++ found_names said) other) (sym (append-nil known)) ∙ among)),
)

each_find-agree : (f g : List ℕ → List ℕ) (said : List Statement) → Agree f g said
    → each_find (λ name low high. declaration (f name) low high) said ≡ each_find (λ name low high. declaration (g name) low high) said
each_find-agree f g [] agree = refl
each_find-agree f g (find name low high ∷ said) agree =
    ap (λ c. declaration c low high ∷ each_find (λ name low high. declaration (f name) low high) said) agree.0
    ∙ ap (λ t. declaration (g name) low high ∷ t) (each_find-agree f g said agree.1)
each_find-agree f g (such_that number name ∷ said) agree = each_find-agree f g said agree.1

each_constraint-agree : (f g : List ℕ → List ℕ) (said : List Statement) → Agree f g said
    → each_constraint (λ number name. constraint number (f name)) said ≡ each_constraint (λ number name. constraint number (g name)) said
each_constraint-agree f g [] agree = refl
each_constraint-agree f g (find name low high ∷ said) agree = each_constraint-agree f g said agree.1
each_constraint-agree f g (such_that number name ∷ said) agree =
    ap (λ c. constraint number c ∷ each_constraint (λ number name. constraint number (f name)) said) agree.0
    ∙ ap (λ t. constraint number (g name) ∷ t) (each_constraint-agree f g said agree.1)

lines_with-agree : (f g : List ℕ → List ℕ) (said : List Statement) → Agree f g said → lines_with f said ≡ lines_with g said
lines_with-agree f g said agree =
    ap (λ d. codes "language ESSENCE' 1.0" ∷ codes "$ conjure-header 1" ∷ [] ++ each_find header_find said ++ each_find header_representation said
    ++ codes "$ end-header" ∷ [] ++ d ++ constraint_lines (each_constraint (λ number name. constraint number (f name)) said))
    (each_find-agree f g said agree)
    ∙ ap (λ c. codes "language ESSENCE' 1.0" ∷ codes "$ conjure-header 1" ∷ [] ++ each_find header_find said ++ each_find header_representation said
    ++ codes "$ end-header" ∷ [] ++ each_find (λ name low high. declaration (g name) low high) said ++ constraint_lines c)
    (each_constraint-agree f g said agree)

-- no cell's name is taken where the statements are those of a text
pub model_is_plain : (lines : List (List ℕ)) (said : List Statement) → SayEach lines said → fit_from [] said ≡ true → plain_text said ≡ model_text said
unfolding plain_text model_text
model_is_plain lines said says fits =
    let good = good_from_lines lines said says in
    let all : cells said ≡ map with_plain_cell (found_names said)
    = cells_plain (codes "alldifferent_except" ∷ found_names said) [] (found_names said) (new_from_fit [] said fits) good (at_first_free (found_names said) good) in
    ap (flat_map ended)
    (sym (lines_with-agree (cell_of (cells said)) plain_cell said
    (agree_on (cell_of (cells said)) plain_cell [] said fits
    (λ name among. ap (λ c. cell_of c name) all ∙ cell_of-plain (found_names said) name among))))

-- ---- texts

-- what was read of a text, whose names fit
pub reads_from : (text : List ℕ) (said : List Statement) → read_lines (lines_of text) ≡ Some said → fit_from [] said ≡ true → Reads text said
reads_from text said read fits = record { lines = lines-found (lines_of text) said read; names = λ before statement after e. fit-each [] said before statement after fits e }

pub read_of : (text : List ℕ) (said : List Statement) → Reads text said → read_lines (lines_of text) ≡ Some said
read_of text said reads = lines-here (lines_of text) said reads.lines

pub fit_of : (text : List ℕ) (said : List Statement) → Reads text said → fit_from [] said ≡ true
fit_of text said reads = each-fit [] said (λ before statement after e. reads.names before statement after e)

-- the model that was written is the text's
pub written_model : (text model : List ℕ) (said : List Statement) → read_lines (lines_of text) ≡ Some said → fit_from [] said ≡ true
    → model ≡ plain_text said → IsModelOf text model
written_model text model said read fits is =
    let reads : Reads text said = reads_from text said read fits in
    (said, reads, is ∙ model_is_plain (lines_of text) said reads.lines fits)

pub written_only : (text model : List ℕ) (said : List Statement) → read_lines (lines_of text) ≡ Some said
    → model ≡ plain_text said → (other : List Statement) → Reads text other → model ≡ model_text other
written_only text model said read is other reads =
    let same : said ≡ other = some_is said other (sym read ∙ read_of text other reads) in
    is ∙ ap plain_text same ∙ model_is_plain (lines_of text) other reads.lines (fit_of text other reads)
  where
    some_is : (x y : List Statement) → Some x ≡ Some y → x ≡ y
    some_is x y h = cc

-- what isn't read, or doesn't fit, is no text of the small grammar
pub unread : (text : List ℕ) → read_lines (lines_of text) ≡ None → IsInSmallGrammar text → ⊥
unread text none in_grammar = let h : Some in_grammar.0 ≡ None = sym (read_of text in_grammar.0 in_grammar.1) ∙ none in cc

pub unfit : (text : List ℕ) (said : List Statement) → read_lines (lines_of text) ≡ Some said → fit_from [] said ≡ false → IsInSmallGrammar text → ⊥
unfit text said read unfits in_grammar =
    let same : Some said ≡ Some in_grammar.0 = sym read ∙ read_of text in_grammar.0 in_grammar.1 in
    let e : said ≡ in_grammar.0 = some_is said in_grammar.0 same in
    let h : false ≡ true = sym unfits ∙ ap (fit_from []) e ∙ fit_of text in_grammar.0 in_grammar.1 in cc
  where
    some_is : (x y : List Statement) → Some x ≡ Some y → x ≡ y
    some_is x y h = cc
