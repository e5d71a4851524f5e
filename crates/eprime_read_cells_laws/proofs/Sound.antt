-- The rules derive what the machine reads.
use Rattle.std.proofs.Common.{◌≡◌, refl, sym, subst, ℕ, pos, true, false, List, [], ◌∷◌, ◌++◌, append_assoc, Option, Some, None}
use Rattle.ess_semantics.specs.declared.words.Op2.{Op2}
use Rattle.ess_semantics.specs.Values.{Text}
use Rattle.ess_semantics.specs.Names.{Names}
use Rattle.ess_semantics.specs.Trees.{Ends, one_value, both_ends, Ex, Exs, no_exs, more_exs, number_ex, truth_ex}
use Rattle.ess_grammar.specs.Words.{Token, number, name, prime_word, word, operator, symbol, language_word, letting_word, be_word, int_word, true_word, false_word, open_round, close_round, open_square, close_square, comma, semicolon, dot, dots}
use Rattle.ess_grammar.specs.CellTexts.{CellNumber, plain_number, minus_number, CellRange, number_range, numbers_range, CellRanges, last_cell_range, next_cell_range, CellValue, number_value, true_value, false_value, empty_value, list_value, indexed_value, CellValues, last_value, next_value, IsCells}
use Rattle.eprime_read_cells_laws.specs.CellMachine.{RangeStage, low_wanted, low_digits_wanted, low_read, high_wanted, high_digits_wanted, range_read, close_wanted, Stage, value_wanted, first_wanted, digits_wanted, item_read, int_wanted, open_wanted, in_ranges, Mode, nothing_read, prime_wanted, major_wanted, dot_wanted, minor_wanted, letting_wanted, name_wanted, be_wanted, in_value, CellsState, before_exs, listed, with_value, indexed_list, plain_list, minus_ex, step_behind_range, step_low_wanted, step_low_digits, step_low_read, with_range, step_high_wanted, step_high_digits, step_close, step_ranges, step_value_wanted, step_first_wanted, step_digits, step_item_read, step_int_wanted, step_open_wanted, step_value, step_letting_wanted, step_nothing_read, step_prime, step_line_number, step_dot, step_name, step_be, cells_step_at, cells_step, finish_at, from_cells, cells_run, cells_start, read_cell_tokens}
use Rattle.eprime_read_cells_laws.proofs.Complete.{before-push, before-more}
use Rattle.eprime_read_cells_laws.proofs.LettingTexts.{Texts, no-line, with-line, letting-read, whole-text}

-- ---- what a state says of the tokens before it

-- A value of the name a, or of a list in it, is wanted behind the lettings cs.
data Before (t0 : List Token) (cs : Names Ex) (a : Text) : List (List Ex) → List Token → Type 0 where
  at_name : {ts : List Token} → ((e : Ex) (us : List Token) → CellValue e ts us → Texts t0 (cs ++ (a, e) ∷ []) us) → Before t0 cs a [] ts
  in_list : {es : List Ex} {fs : List (List Ex)} {us ts : List Token} → ((gs : Exs) (vs : List Token) → CellValues gs ts vs → CellValues (before_exs es gs) us vs) →
      Before t0 cs a fs (symbol open_square ∷ us) → Before t0 cs a (es ∷ fs) ts

-- Some items of the innermost list are read.
record Items (t0 : List Token) (cs : Names Ex) (a : Text) (es : List Ex) (fs : List (List Ex)) (ts : List Token) : Type 0 where
  begin : List Token
  context : Before t0 cs a fs (symbol open_square ∷ begin)
  whole : CellValues (listed es) begin ts

-- The same, and others may follow behind a comma.
record ItemsRead (t0 : List Token) (cs : Names Ex) (a : Text) (es : List Ex) (fs : List (List Ex)) (ts : List Token) : Type 0 where
  read : Items t0 cs a es fs ts
  more : (us : List Token) → ts ≡ symbol comma ∷ us → (gs : Exs) (vs : List Token) → CellValues gs us vs → CellValues (before_exs es gs) read.begin vs

-- The tokens between the items and the first range.
abbrev behind_items : List Token → List Token
behind_items us = symbol semicolon ∷ word int_word ∷ symbol open_round ∷ us

-- Ranges from us on, of which some are read before ts.
abbrev RangesBefore : List Ends → List Ex → List Token → List Token → Type 0
RangesBefore rs is us ts = (qs : List Ends) (gs : Exs) (vs : List Token) → CellRanges qs gs ts vs → CellRanges (rs ++ qs) (before_exs is gs) us vs

-- Ranges from us on that are whole before ts, and others may follow behind a comma.
record RangesRead (rs : List Ends) (is : List Ex) (us ts : List Token) : Type 0 where
  whole : CellRanges rs (listed is) us ts
  more : (ws : List Token) → ts ≡ symbol comma ∷ ws → RangesBefore rs is us ws

-- The first number of a range was read behind other ranges.
record LowRead (rs : List Ends) (is : List Ex) (low : Ex) (us ts : List Token) : Type 0 where
  begin : List Token
  before : RangesBefore rs is us begin
  number : CellNumber low begin ts

-- What a stage inside of ranges that begin at us says.
abbrev InRanges : List Ends → List Ex → RangeStage → List Token → List Token → Type 0
InRanges rs is low_wanted us ts = RangesBefore rs is us ts
InRanges rs is low_digits_wanted us ts = RangesBefore rs is us (operator Op2.Minus ∷ ts)
InRanges rs is (low_read low) us ts = LowRead rs is low us ts
InRanges rs is (high_wanted low) us ts = LowRead rs is low us (symbol dots ∷ ts)
InRanges rs is (high_digits_wanted low) us ts = LowRead rs is low us (symbol dots ∷ operator Op2.Minus ∷ ts)
InRanges rs is range_read us ts = RangesRead rs is us ts
InRanges rs is close_wanted us ts = CellRanges rs (listed is) us (symbol close_round ∷ ts)

-- The same with the items of the list.
record InList (t0 : List Token) (cs : Names Ex) (a : Text) (es : List Ex) (fs : List (List Ex)) (rs : List Ends) (is : List Ex) (s : RangeStage) (ts : List Token) : Type 0 where
  begin : List Token
  items : Items t0 cs a es fs (behind_items begin)
  ranges : InRanges rs is s begin ts

-- What a stage says of the tokens from t0 down to ts.
abbrev InValue : List Token → Names Ex → Text → List (List Ex) → Stage → List Token → Type 0
InValue t0 cs a fs value_wanted ts = Before t0 cs a fs ts
InValue t0 cs a fs first_wanted ts = Before t0 cs a fs (symbol open_square ∷ ts)
InValue t0 cs a fs digits_wanted ts = Before t0 cs a fs (operator Op2.Minus ∷ ts)
InValue t0 cs a (es ∷ fs) item_read ts = ItemsRead t0 cs a es fs ts
InValue t0 cs a (es ∷ fs) int_wanted ts = Items t0 cs a es fs (symbol semicolon ∷ ts)
InValue t0 cs a (es ∷ fs) open_wanted ts = Items t0 cs a es fs (symbol semicolon ∷ word int_word ∷ ts)
InValue t0 cs a (es ∷ fs) (in_ranges rs is s) ts = InList t0 cs a es fs rs is s ts
InValue t0 cs a [] _ ts = ⊥

-- The tokens t0 down to ts are those of the state.
abbrev Invariant : List Token → Names Ex → Mode → List Token → Type 0
Invariant t0 cs nothing_read ts = (t0 ≡ ts) × (cs ≡ [])
Invariant t0 cs prime_wanted ts = (t0 ≡ word language_word ∷ ts) × (cs ≡ [])
Invariant t0 cs major_wanted ts = (t0 ≡ word language_word ∷ prime_word ∷ ts) × (cs ≡ [])
Invariant t0 cs dot_wanted ts = ((m : ℕ) × (t0 ≡ word language_word ∷ prime_word ∷ number m ∷ ts)) × (cs ≡ [])
Invariant t0 cs minor_wanted ts = ((m : ℕ) × (t0 ≡ word language_word ∷ prime_word ∷ number m ∷ symbol dot ∷ ts)) × (cs ≡ [])
Invariant t0 cs letting_wanted ts = Texts t0 cs ts
Invariant t0 cs name_wanted ts = Texts t0 cs (word letting_word ∷ ts)
Invariant t0 cs (be_wanted a) ts = Texts t0 cs (word letting_word ∷ name a ∷ ts)
Invariant t0 cs (in_value a fs s) ts = InValue t0 cs a fs s ts

-- The same of a state that a step answers, if any.
abbrev Keeps : List Token → Option CellsState → List Token → Type 0
Keeps t0 None ts = Unit {0}
Keeps t0 (Some s) ts = Invariant t0 s.done s.mode ts

-- ---- values

-- Behind a value that was read.
value-keeps : {t0 : List Token} (cs : Names Ex) (a : Text) (fs : List (List Ex)) (e : Ex) (us ts : List Token) → Before t0 cs a fs us → CellValue e us ts → Keeps t0 (with_value cs a fs e) ts
value-keeps cs a [] e us ts (at_name p) d = p e ts d
value-keeps cs a (es ∷ fs) e us ts (in_list {us = vs} p c) d = record {
  read = record {
    begin = vs;
    context = c;
    whole = subst (λ gs. CellValues gs vs ts) (sym (before-push es e no_exs)) (p (more_exs e no_exs) ts (last_value d));
  };
  more = λ ws h gs xs ds. subst (λ hs. CellValues hs vs xs) (sym (before-push es e gs)) (p (more_exs e gs) xs (next_value (subst (λ ys. CellValue e us ys) h d) ds));
}

-- Before the first value of a list.
first-item : {t0 : List Token} {cs : Names Ex} {a : Text} {fs : List (List Ex)} {ts : List Token} → Before t0 cs a fs (symbol open_square ∷ ts) → Before t0 cs a ([] ∷ fs) ts
first-item c = in_list (λ gs vs ds. ds) c

wanted-keeps : {t0 : List Token} (t : Token) (cs : Names Ex) (a : Text) (fs : List (List Ex)) (ts : List Token) → Before t0 cs a fs (t ∷ ts) → Keeps t0 (step_value_wanted t cs a fs) ts
wanted-keeps (number n) cs a fs ts c = value-keeps cs a fs (number_ex (pos n)) (number n ∷ ts) ts c (number_value plain_number)
wanted-keeps (operator Op2.Minus) cs a fs ts c = c
wanted-keeps (word true_word) cs a fs ts c = value-keeps cs a fs (truth_ex true) (word true_word ∷ ts) ts c true_value
wanted-keeps (word false_word) cs a fs ts c = value-keeps cs a fs (truth_ex false) (word false_word ∷ ts) ts c false_value
wanted-keeps (symbol open_square) cs a fs ts c = c
wanted-keeps _ cs a fs ts c = tt

first-keeps : {t0 : List Token} (t : Token) (cs : Names Ex) (a : Text) (fs : List (List Ex)) (ts : List Token) → Before t0 cs a fs (symbol open_square ∷ t ∷ ts) → Keeps t0 (step_first_wanted t cs a fs) ts
first-keeps (symbol close_square) cs a fs ts c = value-keeps cs a fs (plain_list []) (symbol open_square ∷ symbol close_square ∷ ts) ts c empty_value
first-keeps t cs a fs ts c = wanted-keeps t cs a ([] ∷ fs) ts (first-item c)

digits-keeps : {t0 : List Token} (t : Token) (cs : Names Ex) (a : Text) (fs : List (List Ex)) (ts : List Token) → Before t0 cs a fs (operator Op2.Minus ∷ t ∷ ts) → Keeps t0 (step_digits t cs a fs) ts
digits-keeps (number n) cs a fs ts c = value-keeps cs a fs (minus_ex n) (operator Op2.Minus ∷ number n ∷ ts) ts c (number_value minus_number)
digits-keeps _ cs a fs ts c = tt

item-keeps : {t0 : List Token} (t : Token) (cs : Names Ex) (a : Text) (es : List Ex) (fs : List (List Ex)) (ts : List Token) → ItemsRead t0 cs a es fs (t ∷ ts) → Keeps t0 (step_item_read t cs a (es ∷ fs)) ts
item-keeps (symbol comma) cs a es fs ts x = in_list (λ gs vs ds. x.more ts refl gs vs ds) x.read.context
item-keeps (symbol semicolon) cs a es fs ts x = x.read
item-keeps (symbol close_square) cs a es fs ts x = value-keeps cs a fs (plain_list es) (symbol open_square ∷ x.read.begin) ts x.read.context (list_value x.read.whole)
item-keeps _ cs a es fs ts x = tt

int-keeps : {t0 : List Token} (t : Token) (cs : Names Ex) (a : Text) (es : List Ex) (fs : List (List Ex)) (ts : List Token) → Items t0 cs a es fs (symbol semicolon ∷ t ∷ ts) → Keeps t0 (step_int_wanted t cs a (es ∷ fs)) ts
int-keeps (word int_word) cs a es fs ts x = x
int-keeps _ cs a es fs ts x = tt

open-keeps : {t0 : List Token} (t : Token) (cs : Names Ex) (a : Text) (es : List Ex) (fs : List (List Ex)) (ts : List Token) → Items t0 cs a es fs (symbol semicolon ∷ word int_word ∷ t ∷ ts) → Keeps t0 (step_open_wanted t cs a (es ∷ fs)) ts
open-keeps (symbol open_round) cs a es fs ts x = record { begin = ts; items = x; ranges = λ qs gs vs ds. ds }
open-keeps _ cs a es fs ts x = tt

-- ---- ranges

-- Behind a range with its numbers.
range-read : (rs : List Ends) (is js : List Ex) (r : Ends) (us ws ts : List Token) → ((fs : Exs) → CellRange r fs (before_exs js fs) ws ts) → RangesBefore rs is us ws → RangesRead (rs ++ r ∷ []) (is ++ js) us ts
range-read rs is js r us ws ts d p = record {
  whole = subst (λ gs. CellRanges (rs ++ r ∷ []) gs us ts) (sym (before-more is js no_exs)) (p (r ∷ []) (before_exs js no_exs) ts (last_cell_range (d no_exs)));
  more = λ xs h qs gs vs ds.
      subst (λ hs. CellRanges ((rs ++ r ∷ []) ++ qs) hs us vs) (sym (before-more is js gs))
      (subst (λ ps. CellRanges ps (before_exs is (before_exs js gs)) us vs) (sym (append_assoc rs (r ∷ []) qs))
      (p (r ∷ qs) (before_exs js gs) vs (next_cell_range (subst (λ ys. CellRange r gs (before_exs js gs) ws ys) h (d gs)) ds)));
}

-- A token behind a whole range.
behind-range-keeps : {t0 : List Token} (t : Token) (cs : Names Ex) (a : Text) (es : List Ex) (fs : List (List Ex)) (rs : List Ends) (is : List Ex) (us ts : List Token) →
    Items t0 cs a es fs (behind_items us) → RangesRead rs is us (t ∷ ts) → Keeps t0 (step_behind_range t cs a (es ∷ fs) rs is) ts
behind-range-keeps (symbol comma) cs a es fs rs is us ts x y = record { begin = us; items = x; ranges = y.more ts refl }
behind-range-keeps (symbol close_round) cs a es fs rs is us ts x y = record { begin = us; items = x; ranges = y.whole }
behind-range-keeps _ cs a es fs rs is us ts x y = tt

low-keeps : {t0 : List Token} (t : Token) (cs : Names Ex) (a : Text) (es : List Ex) (fs : List (List Ex)) (rs : List Ends) (is : List Ex) (us ts : List Token) →
    Items t0 cs a es fs (behind_items us) → RangesBefore rs is us (t ∷ ts) → Keeps t0 (step_low_wanted t cs a (es ∷ fs) rs is) ts
low-keeps (number n) cs a es fs rs is us ts x p = record { begin = us; items = x; ranges = record { begin = number n ∷ ts; before = p; number = plain_number } }
low-keeps (operator Op2.Minus) cs a es fs rs is us ts x p = record { begin = us; items = x; ranges = p }
low-keeps _ cs a es fs rs is us ts x p = tt

low-digits-keeps : {t0 : List Token} (t : Token) (cs : Names Ex) (a : Text) (es : List Ex) (fs : List (List Ex)) (rs : List Ends) (is : List Ex) (us ts : List Token) →
    Items t0 cs a es fs (behind_items us) → RangesBefore rs is us (operator Op2.Minus ∷ t ∷ ts) → Keeps t0 (step_low_digits t cs a (es ∷ fs) rs is) ts
low-digits-keeps (number n) cs a es fs rs is us ts x p = record { begin = us; items = x; ranges = record { begin = operator Op2.Minus ∷ number n ∷ ts; before = p; number = minus_number } }
low-digits-keeps _ cs a es fs rs is us ts x p = tt

low-read-keeps : {t0 : List Token} (t : Token) (cs : Names Ex) (a : Text) (es : List Ex) (fs : List (List Ex)) (rs : List Ends) (is : List Ex) (low : Ex) (us ts : List Token) →
    Items t0 cs a es fs (behind_items us) → LowRead rs is low us (t ∷ ts) → Keeps t0 (step_low_read t cs a (es ∷ fs) rs is low) ts
low-read-keeps (symbol dots) cs a es fs rs is low us ts x y = record { begin = us; items = x; ranges = y }
low-read-keeps t cs a es fs rs is low us ts x y =
    behind-range-keeps t cs a es fs (rs ++ one_value ∷ []) (is ++ low ∷ []) us ts x (range-read rs is (low ∷ []) one_value us y.begin (t ∷ ts) (λ gs. number_range y.number) y.before)

-- Behind a range with two numbers.
with-range-keeps : {t0 : List Token} (cs : Names Ex) (a : Text) (es : List Ex) (fs : List (List Ex)) (rs : List Ends) (is : List Ex) (low high : Ex) (us ws ts : List Token) →
    Items t0 cs a es fs (behind_items us) → LowRead rs is low us (symbol dots ∷ ws) → CellNumber high ws ts → Keeps t0 (with_range cs a (es ∷ fs) rs is low high) ts
with-range-keeps cs a es fs rs is low high us ws ts x y d =
    record { begin = us; items = x; ranges = range-read rs is (low ∷ high ∷ []) both_ends us y.begin ts (λ gs. numbers_range y.number d) y.before }

high-keeps : {t0 : List Token} (t : Token) (cs : Names Ex) (a : Text) (es : List Ex) (fs : List (List Ex)) (rs : List Ends) (is : List Ex) (low : Ex) (us ts : List Token) →
    Items t0 cs a es fs (behind_items us) → LowRead rs is low us (symbol dots ∷ t ∷ ts) → Keeps t0 (step_high_wanted t cs a (es ∷ fs) rs is low) ts
high-keeps (number n) cs a es fs rs is low us ts x y = with-range-keeps cs a es fs rs is low (number_ex (pos n)) us (number n ∷ ts) ts x y plain_number
high-keeps (operator Op2.Minus) cs a es fs rs is low us ts x y = record { begin = us; items = x; ranges = y }
high-keeps _ cs a es fs rs is low us ts x y = tt

high-digits-keeps : {t0 : List Token} (t : Token) (cs : Names Ex) (a : Text) (es : List Ex) (fs : List (List Ex)) (rs : List Ends) (is : List Ex) (low : Ex) (us ts : List Token) →
    Items t0 cs a es fs (behind_items us) → LowRead rs is low us (symbol dots ∷ operator Op2.Minus ∷ t ∷ ts) → Keeps t0 (step_high_digits t cs a (es ∷ fs) rs is low) ts
high-digits-keeps (number n) cs a es fs rs is low us ts x y = with-range-keeps cs a es fs rs is low (minus_ex n) us (operator Op2.Minus ∷ number n ∷ ts) ts x y minus_number
high-digits-keeps _ cs a es fs rs is low us ts x y = tt

close-keeps : {t0 : List Token} (t : Token) (cs : Names Ex) (a : Text) (es : List Ex) (fs : List (List Ex)) (rs : List Ends) (is : List Ex) (us ts : List Token) →
    Items t0 cs a es fs (behind_items us) → CellRanges rs (listed is) us (symbol close_round ∷ t ∷ ts) → Keeps t0 (step_close t cs a (es ∷ fs) rs is) ts
close-keeps (symbol close_square) cs a es fs rs is us ts x d = value-keeps cs a fs (indexed_list es rs is) (symbol open_square ∷ x.begin) ts x.context (indexed_value x.whole d)
close-keeps _ cs a es fs rs is us ts x d = tt

ranges-keeps : {t0 : List Token} (t : Token) (cs : Names Ex) (a : Text) (es : List Ex) (fs : List (List Ex)) (rs : List Ends) (is : List Ex) (s : RangeStage) (ts : List Token) →
    InList t0 cs a es fs rs is s (t ∷ ts) → Keeps t0 (step_ranges t cs a (es ∷ fs) rs is s) ts
ranges-keeps t cs a es fs rs is low_wanted ts x = low-keeps t cs a es fs rs is x.begin ts x.items x.ranges
ranges-keeps t cs a es fs rs is low_digits_wanted ts x = low-digits-keeps t cs a es fs rs is x.begin ts x.items x.ranges
ranges-keeps t cs a es fs rs is (low_read low) ts x = low-read-keeps t cs a es fs rs is low x.begin ts x.items x.ranges
ranges-keeps t cs a es fs rs is (high_wanted low) ts x = high-keeps t cs a es fs rs is low x.begin ts x.items x.ranges
ranges-keeps t cs a es fs rs is (high_digits_wanted low) ts x = high-digits-keeps t cs a es fs rs is low x.begin ts x.items x.ranges
ranges-keeps t cs a es fs rs is range_read ts x = behind-range-keeps t cs a es fs rs is x.begin ts x.items x.ranges
ranges-keeps t cs a es fs rs is close_wanted ts x = close-keeps t cs a es fs rs is x.begin ts x.items x.ranges

in-value-keeps : (t0 : List Token) (t : Token) (cs : Names Ex) (a : Text) (fs : List (List Ex)) (s : Stage) (ts : List Token) → InValue t0 cs a fs s (t ∷ ts) → Keeps t0 (step_value t cs a fs s) ts
in-value-keeps t0 t cs a fs value_wanted ts x = wanted-keeps t cs a fs ts x
in-value-keeps t0 t cs a fs first_wanted ts x = first-keeps t cs a fs ts x
in-value-keeps t0 t cs a fs digits_wanted ts x = digits-keeps t cs a fs ts x
in-value-keeps t0 t cs a (es ∷ fs) item_read ts x = item-keeps t cs a es fs ts x
in-value-keeps t0 t cs a (es ∷ fs) int_wanted ts x = int-keeps t cs a es fs ts x
in-value-keeps t0 t cs a (es ∷ fs) open_wanted ts x = open-keeps t cs a es fs ts x
in-value-keeps t0 t cs a (es ∷ fs) (in_ranges rs is s) ts x = ranges-keeps t cs a es fs rs is s ts x
in-value-keeps t0 t cs a [] item_read ts x = absurd x
in-value-keeps t0 t cs a [] int_wanted ts x = absurd x
in-value-keeps t0 t cs a [] open_wanted ts x = absurd x
in-value-keeps t0 t cs a [] (in_ranges rs is s) ts x = absurd x

-- ---- texts

letting-keeps : {t0 : List Token} (t : Token) (cs : Names Ex) (ts : List Token) → Texts t0 cs (t ∷ ts) → Keeps t0 (step_letting_wanted t cs) ts
letting-keeps (word letting_word) cs ts p = p
letting-keeps _ cs ts p = tt

nothing-keeps : {t0 : List Token} (t : Token) (cs : Names Ex) (ts : List Token) → t0 ≡ t ∷ ts → cs ≡ [] → Keeps t0 (step_nothing_read t cs) ts
nothing-keeps (word language_word) cs ts h i = (h, i)
nothing-keeps t cs ts h i = letting-keeps t cs ts (no-line cs (t ∷ ts) h i)

prime-keeps : {t0 : List Token} (t : Token) (cs : Names Ex) (ts : List Token) → t0 ≡ word language_word ∷ t ∷ ts → cs ≡ [] → Keeps t0 (step_prime t cs) ts
prime-keeps prime_word cs ts h i = (h, i)
prime-keeps _ cs ts h i = tt

major-keeps : {t0 : List Token} (t : Token) (cs : Names Ex) (ts : List Token) → t0 ≡ word language_word ∷ prime_word ∷ t ∷ ts → cs ≡ [] → Keeps t0 (step_line_number dot_wanted t cs) ts
major-keeps (number m) cs ts h i = ((m, h), i)
major-keeps _ cs ts h i = tt

dot-keeps : {t0 : List Token} (t : Token) (cs : Names Ex) (ts : List Token) (m : ℕ) → t0 ≡ word language_word ∷ prime_word ∷ number m ∷ t ∷ ts → cs ≡ [] → Keeps t0 (step_dot t cs) ts
dot-keeps (symbol dot) cs ts m h i = ((m, h), i)
dot-keeps _ cs ts m h i = tt

minor-keeps : {t0 : List Token} (t : Token) (cs : Names Ex) (ts : List Token) (m : ℕ) → t0 ≡ word language_word ∷ prime_word ∷ number m ∷ symbol dot ∷ t ∷ ts → cs ≡ [] →
    Keeps t0 (step_line_number letting_wanted t cs) ts
minor-keeps (number n) cs ts m h i = with-line cs m n ts h i
minor-keeps _ cs ts m h i = tt

name-keeps : {t0 : List Token} (t : Token) (cs : Names Ex) (ts : List Token) → Texts t0 cs (word letting_word ∷ t ∷ ts) → Keeps t0 (step_name t cs) ts
name-keeps (name a) cs ts p = p
name-keeps _ cs ts p = tt

be-keeps : {t0 : List Token} (t : Token) (cs : Names Ex) (a : Text) (ts : List Token) → Texts t0 cs (word letting_word ∷ name a ∷ t ∷ ts) → Keeps t0 (step_be t cs a) ts
be-keeps (word be_word) cs a ts p = at_name (letting-read cs a ts p)
be-keeps _ cs a ts p = tt

step-keeps : (t0 : List Token) (t : Token) (cs : Names Ex) (m : Mode) (ts : List Token) → Invariant t0 cs m (t ∷ ts) → Keeps t0 (cells_step_at t cs m) ts
step-keeps t0 t cs nothing_read ts x = nothing-keeps t cs ts x.0 x.1
step-keeps t0 t cs prime_wanted ts x = prime-keeps t cs ts x.0 x.1
step-keeps t0 t cs major_wanted ts x = major-keeps t cs ts x.0 x.1
step-keeps t0 t cs dot_wanted ts x = dot-keeps t cs ts x.0.0 x.0.1 x.1
step-keeps t0 t cs minor_wanted ts x = minor-keeps t cs ts x.0.0 x.0.1 x.1
step-keeps t0 t cs letting_wanted ts x = letting-keeps t cs ts x
step-keeps t0 t cs name_wanted ts x = name-keeps t cs ts x
step-keeps t0 t cs (be_wanted a) ts x = be-keeps t cs a ts x
step-keeps t0 t cs (in_value a fs s) ts x = in-value-keeps t0 t cs a fs s ts x

-- ---- whole texts

-- The rules derive the answer for these tokens, if there is one.
abbrev IsSound : List Token → Option (Names Ex) → Type 0
IsSound t0 None = Unit {0}
IsSound t0 (Some cs) = IsCells cs t0

finish-sound : (t0 : List Token) (cs : Names Ex) (m : Mode) → Invariant t0 cs m [] → IsSound t0 (finish_at cs m)
finish-sound t0 cs nothing_read x = whole-text cs (no-line cs [] x.0 x.1)
finish-sound t0 cs letting_wanted x = whole-text cs x
finish-sound t0 cs _ x = tt

then-sound : (t0 ts : List Token) (r : Option CellsState) → Keeps t0 r ts → ((s : CellsState) → Invariant t0 s.done s.mode ts → IsSound t0 (cells_run ts s)) → IsSound t0 (from_cells (cells_run ts) r)
then-sound t0 ts None k f = tt
then-sound t0 ts (Some s) k f = f s k

run-sound : (t0 ts : List Token) (s : CellsState) → Invariant t0 s.done s.mode ts → IsSound t0 (cells_run ts s)
run-sound t0 [] s x = finish-sound t0 s.done s.mode x
run-sound t0 (t ∷ ts) s x = then-sound t0 ts (cells_step t s) (step-keeps t0 t s.done s.mode ts x) (λ q y. run-sound t0 ts q y)

-- What is read is derived.
pub cells-sound : (ts : List Token) (cs : Names Ex) → read_cell_tokens ts ≡ Some cs → IsCells cs ts
cells-sound ts cs h = subst (λ o. IsSound ts o) h (run-sound ts ts cells_start (refl, refl))
