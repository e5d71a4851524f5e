-- Items that are added one by one, and a check that what is required is there, are items that fit a form.
use Rattle.std.proofs.Common.{◌≡◌, ◌∙◌, ℕ, ◌==◌, ◌&&◌, ◌||◌, not, Bool, cond, true, false, List, [], ◌∷◌, ◌++◌, map, length, Option, Some}
use Rattle.std.proofs.Common.{None, refl, sym, ap, ap₂, append-nil, append_assoc, arith, ne_eqb}
use Rattle.std.specs.Prelude.{option_map, option_and_then}
use Rattle.std.specs.List.{list_all, list_any}
use Rattle.clap.specs.Walk.{Row, Rule}
use Rattle.clap.specs.Takes.{is_given}
use Rattle.conjure_cli_words.specs.Items.{Text, Item, Name, knows, long, operand, option, same_name, short}
use Rattle.conjure_cli_words.specs.Forms.{Form, fitting, gives, once_after, operands_of}
use Rattle.conjure_cli_words.specs.Parsers.{Entries, id_of, operand_id}
use Rattle.conjure_cli_words.proofs.Tables.{and_true, or_false, rules_of}
use Rattle.conjure_cli_words.proofs.Rows.{given_row, has_operand, row-given, row-operand, row_for}
use Rattle.conjure_cli_words.proofs.Adds.{adds, operand-append, rows_of}

-- the texts have room where one is left, or none
abbrev roomy : Bool → List Text → Bool
roomy room [] = true
roomy room (x ∷ xs) = room && roomy false xs

or_assoc : (a b c : Bool) → (a || (b || c)) ≡ ((a || b) || c)
or_assoc true b c = refl
or_assoc false b c = refl

or_swap : (a b : Bool) → (a || b) ≡ (b || (a || false))
or_swap true true = refl
or_swap true false = refl
or_swap false true = refl
or_swap false false = refl

gives-append : (before : List Item) (i : Item) (m : Name) → gives (before ++ i ∷ []) m ≡ (gives before m || gives (i ∷ []) m)
gives-append [] i m = refl
gives-append (option other v ∷ rest) i m =
    ap (λ b. same_name other m || b) (gives-append rest i m) ∙ or_assoc (same_name other m) (gives rest m) (gives (i ∷ []) m)
gives-append (operand word ∷ rest) i m = gives-append rest i m

-- names that were seen, and the items that give them
abbrev AreSeen : List Name → List Item → Type 0
AreSeen seen before = (m : Name) → knows seen m ≡ gives before m

seen-option : (seen : List Name) (before : List Item) (name : Name) (v : Text) → AreSeen seen before
    → AreSeen (name ∷ seen) (before ++ option name v ∷ [])
seen-option seen before name v h m =
    ap (λ b. same_name name m || b) (h m) ∙ or_swap (same_name name m) (gives before m) ∙ sym (gives-append before (option name v) m)

seen-operand : (seen : List Name) (before : List Item) (word : Text) → AreSeen seen before → AreSeen seen (before ++ operand word ∷ [])
seen-operand seen before word h m = h m ∙ sym (or_false (gives before m)) ∙ sym (gives-append before (operand word) m)

add_option : {X : Type 0} (g o r : Bool) (x : Option X) → cond g None (cond (o && r) x None) ≡ cond ((not g && o) && r) x None
add_option true o r x = refl
add_option false o r x = refl

add_word : {X : Type 0} (p h o r : Bool) (x : Option X) → cond (not p || h) None (cond (o && r) x None)
    ≡ cond (o && ((p && not h) && r)) x None
add_word true true true r x = refl
add_word true true false r x = refl
add_word true false o r x = refl
add_word false h true r x = refl
add_word false h false r x = refl

adds-once : (p : Bool) (items before : List Item) (seen : List Name) → AreSeen seen before
    → adds p before items ≡ cond (once_after seen items && roomy (p && not (has_operand before)) (operands_of items))
    (Some (before ++ items)) None
adds-once p [] before seen h = ap Some (sym (append-nil before))
adds-once p (option name v ∷ rest) before seen h =
    ap (λ o. cond (gives before name) None o) (adds-once p rest (before ++ option name v ∷ []) (name ∷ seen)
    (seen-option seen before name v h)
    ∙ ap₂ (λ b xs. cond (once_after (name ∷ seen) rest && roomy (p && not b) (operands_of rest)) (Some xs) None)
    (operand-append before (option name v) ∙ or_false (has_operand before)) (append_assoc before (option name v ∷ []) rest))
    ∙ add_option (gives before name) (once_after (name ∷ seen) rest) (roomy (p && not (has_operand before)) (operands_of rest))
    (Some (before ++ option name v ∷ rest))
    ∙ ap (λ b. cond ((not b && once_after (name ∷ seen) rest) && roomy (p && not (has_operand before)) (operands_of rest))
    (Some (before ++ option name v ∷ rest)) None) (sym (h name))
adds-once p (operand word ∷ rest) before seen h =
    ap (λ o. cond (not p || has_operand before) None o)
    (adds-once p rest (before ++ operand word ∷ []) seen (seen-operand seen before word h)
    ∙ ap₂ (λ b xs. cond (once_after seen rest && roomy b (operands_of rest)) (Some xs) None)
    (ap (λ b. p && not b) (operand-append before (operand word) ∙ always (has_operand before)) ∙ never p)
    (append_assoc before (operand word ∷ []) rest))
    ∙ add_word p (has_operand before) (once_after seen rest) (roomy false (operands_of rest)) (Some (before ++ operand word ∷ rest))
  where
    always : (b : Bool) → (b || true) ≡ true
    always true = refl
    always false = refl

    never : (b : Bool) → (b && not true) ≡ false
    never true = refl
    never false = refl

adds-all : (p : Bool) (items : List Item) → adds p [] items ≡ cond (once_after [] items && roomy p (operands_of items)) (Some items) None
adds-all p items = adds-once p items [] [] (λ m. refl)
    ∙ ap (λ b. cond (once_after [] items && roomy b (operands_of items)) (Some items) None) (and_true p)

-- ---- what is required

abbrev pub required_in : Entries → List Name
required_in [] = []
required_in ((a, true) ∷ es) = a ∷ required_in es
required_in ((a, false) ∷ es) = required_in es

abbrev pub lacks : List Row → List Rule → Bool
lacks rows rules = list_any (λ a. a.required && not (is_given a.id rows)) rules

given-option : (items : List Item) (name : Name) → is_given (id_of name) (map row_for items) ≡ gives items name
given-option items name = given_row (id_of name) items ∙ row-given items name

given-operand : (items : List Item) → is_given operand_id (map row_for items) ≡ has_operand items
given-operand items = given_row operand_id items ∙ row-operand items

lacks_more : (g rest all : Bool) → not rest ≡ all → not ((true && not g) || rest) ≡ (g && all)
lacks_more true rest all h = h
lacks_more false rest all h = refl

and_assoc : (a b c : Bool) → (a && (b && c)) ≡ ((a && b) && c)
and_assoc true b c = refl
and_assoc false b c = refl

lacks_operand : (h : Bool) → not ((true && not h) || false) ≡ h
lacks_operand true = refl
lacks_operand false = refl

pub lacks-gives : (es : Entries) (p : Bool) (items : List Item)
    → not (lacks (map row_for items) (rules_of es p)) ≡ (list_all (gives items) (required_in es) && (not p || has_operand items))
lacks-gives [] true items = ap (λ g. not ((true && not g) || false)) (given-operand items) ∙ lacks_operand (has_operand items)
lacks-gives [] false items = refl
lacks-gives ((short x, false) ∷ es) p items = lacks-gives es p items
lacks-gives ((long m, false) ∷ es) p items = lacks-gives es p items
lacks-gives ((short x, true) ∷ es) p items =
    ap (λ g. not ((true && not g) || lacks (map row_for items) (rules_of es p))) (given-option items (short x))
    ∙ lacks_more (gives items (short x)) (lacks (map row_for items) (rules_of es p)) _ (lacks-gives es p items)
    ∙ and_assoc (gives items (short x)) (list_all (gives items) (required_in es)) (not p || has_operand items)
lacks-gives ((long m, true) ∷ es) p items =
    ap (λ g. not ((true && not g) || lacks (map row_for items) (rules_of es p))) (given-option items (long m))
    ∙ lacks_more (gives items (long m)) (lacks (map row_for items) (rules_of es p)) _ (lacks-gives es p items)
    ∙ and_assoc (gives items (long m)) (list_all (gives items) (required_in es)) (not p || has_operand items)

-- ---- as many operands as are wanted

abbrev is_some_text : List Text → Bool
is_some_text [] = false
is_some_text (x ∷ xs) = true

operand-some : (items : List Item) → has_operand items ≡ is_some_text (operands_of items)
operand-some [] = refl
operand-some (option name v ∷ rest) = operand-some rest
operand-some (operand word ∷ rest) = refl

as_many : (p : Bool) (texts : List Text) → (roomy p texts && (not p || is_some_text texts)) ≡ (length texts == cond p 1 0)
as_many true [] = refl
as_many true (x ∷ []) = refl
as_many true (x ∷ y ∷ rest) = sym (ne_eqb (length (x ∷ y ∷ rest)) 1 (λ e. omega arith))
as_many false [] = refl
as_many false (x ∷ rest) = sym (ne_eqb (length (x ∷ rest)) 0 (λ e. omega arith))

-- the rows, where what is required is there
abbrev pub with_all : List Rule → List Row → Option (List Row)
with_all rules rows = cond (not (lacks rows rules)) (Some rows) None

keep : (o r a h : Bool) (rules : List Rule) (items : List Item) → not (lacks (map row_for items) rules) ≡ (a && h)
    → option_and_then (with_all rules) (rows_of (cond (o && r) (Some items) None)) ≡ rows_of (cond (o && (a && (r && h))) (Some items) None)
keep false r a h rules items e = refl
keep true false true h rules items e = refl
keep true false false h rules items e = refl
keep true true true true rules items e = ap (λ b. cond b (Some (map row_for items)) None) e
keep true true true false rules items e = ap (λ b. cond b (Some (map row_for items)) None) e
keep true true false h rules items e = ap (λ b. cond b (Some (map row_for items)) None) e

-- items that are added one by one, with all that is required, fit the form
pub adds-fitting : (es : Entries) (p : Bool) (form : Form) (items : List Item) → required_in es ≡ form.required → cond p 1 0 ≡ form.operands
    → option_and_then (with_all (rules_of es p)) (rows_of (adds p [] items)) ≡ rows_of (fitting form items)
adds-fitting es p form items required operands =
    ap (λ o. option_and_then (with_all (rules_of es p)) (rows_of o)) (adds-all p items)
    ∙ keep (once_after [] items) (roomy p (operands_of items)) (list_all (gives items) (required_in es)) (not p || has_operand items)
    (rules_of es p) items (lacks-gives es p items)
    ∙ ap (λ b. rows_of (cond (once_after [] items && (list_all (gives items) (required_in es) && b)) (Some items) None))
    (ap (λ b. roomy p (operands_of items) && (not p || b)) (operand-some items) ∙ as_many p (operands_of items))
    ∙ ap₂ (λ names n. rows_of (cond (once_after [] items && (list_all (gives items) names && (length (operands_of items) == n)))
    (Some items) None)) required operands
