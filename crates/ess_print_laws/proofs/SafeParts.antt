-- Printers of separate pieces, put together from their parts.
use Rattle.std.proofs.Common.{◌≡◌, refl, Bool, true, false, List, [], ◌∷◌, ◌++◌}
use Rattle.std.proofs.lemmas.Bool.{and_parts}
use Rattle.ess_semantics.specs.Values.{Text}
use Rattle.ess_semantics.specs.Trees.{Pat, Pats, name_pat, tuple_pat, no_pats, more_pats}
use Rattle.ess_grammar.specs.Words.{Token, Symbol, close_round, close_square, close_curly, comma, semicolon, bar, dots, open_round, open_square, open_curly}
use Rattle.ess_grammar.specs.Readable.{is_name_token, are_name_tokens, ReadablePat, ReadablePats}
use Rattle.ess_print_laws.specs.TokenTexts.{symbol_text}
use Rattle.ess_print_laws.specs.Pieces.{Piece, token, space, text_of, Printer, sign, named, listed, within}
use Rattle.ess_print_laws.specs.Parts.{comma_space, commas, bracketed, worded, tuple_pieces, pat_pieces, pat_printers, name_printers}
use Rattle.ess_print_laws.specs.Touching.{Separate, is_printable}
use Rattle.ess_print_laws.proofs.Closing.{closing, is_dot, is_free, token-ends, free-ends}

-- Before separate pieces that begin with a closing byte, or before none, it puts separate pieces.
pub record Safe (p : Printer) : Type 0 where
  pub law : (us : List Piece) → closing (text_of us) ≡ true → Separate us → Separate (p us)

-- And what it puts begins with a closing byte too.
pub record Closed (p : Printer) : Type 0 where
  pub law : (us : List Piece) → closing (text_of us) ≡ true → Separate us → Separate (p us)
  pub closes : (us : List Piece) → closing (text_of us) ≡ true → closing (text_of (p us)) ≡ true

-- Each of several is safe.
abbrev pub AllSafe : List Printer → Type 0
AllSafe [] = Unit {0}
AllSafe (p ∷ ps) = Safe p × AllSafe ps

pub safe : {p : Printer} → Closed p → Safe p
safe h = record { law = h.law }

-- ---- one piece first

pub nothing : Closed (λ us. us)
nothing = record { law = λ us c s. s; closes = λ us c. c }

pub spaced : {p : Printer} → Safe p → Closed (λ us. space ∷ p us)
spaced h = record { law = h.law; closes = λ us c. refl }

-- a token before what begins with a closing byte
pub plain : {t : Token} {p : Printer} → is_printable t ≡ true → is_dot t ≡ false → Closed p → Safe (λ us. token t ∷ p us)
plain {t = t} {p = p} h k q = record { law = λ us c s. (h, token-ends t (text_of (p us)) h k (q.closes us c), q.law us c s) }

-- a symbol that ends before any byte
pub free : {y : Symbol} {p : Printer} → is_free y ≡ true → Safe p → Safe (λ us. sign y ∷ p us)
free {y = y} {p = p} h q = record { law = λ us c s. (refl, free-ends y (text_of (p us)) h, q.law us c s) }

-- Whether the symbol begins with a closing byte.
abbrev pub is_closing : Symbol → Bool
is_closing close_round = true
is_closing close_square = true
is_closing close_curly = true
is_closing comma = true
is_closing semicolon = true
is_closing bar = true
is_closing dots = true
is_closing open_round = true
is_closing open_square = true
is_closing y = false

closes-by : (y : Symbol) (r : Text) → is_closing y ≡ true → closing (symbol_text y ++ r) ≡ true
closes-by close_round r h = refl
closes-by close_square r h = refl
closes-by close_curly r h = refl
closes-by comma r h = refl
closes-by semicolon r h = refl
closes-by bar r h = refl
closes-by dots r h = refl
closes-by open_round r h = refl
closes-by open_square r h = refl
closes-by y r h = cc

-- and begins with a closing byte itself
pub closed : {y : Symbol} {p : Printer} → is_free y ≡ true → is_closing y ≡ true → Safe p → Closed (λ us. sign y ∷ p us)
closed {y = y} {p = p} h k q = record {
  law = λ us c s. (refl, free-ends y (text_of (p us)) h, q.law us c s);
  closes = λ us c. closes-by y (text_of (p us)) k;
}

-- ---- one printer before another

pub then : {p q : Printer} → Safe p → Closed q → Safe (λ us. p (q us))
then {q = q} h k = record { law = λ us c s. h.law (q us) (k.closes us c) (k.law us c s) }

pub then-closed : {p q : Printer} → Closed p → Closed q → Closed (λ us. p (q us))
then-closed {q = q} h k = record { law = λ us c s. h.law (q us) (k.closes us c) (k.law us c s); closes = λ us c. h.closes (q us) (k.closes us c) }

pub listed-safe : (between : Printer) (ps : List Printer) → ((q : Printer) → Safe q → Closed (λ us. between (q us))) → AllSafe ps → Safe (listed between ps)
listed-safe between [] b h = safe nothing
listed-safe between (p ∷ []) b h = h.0
listed-safe between (p ∷ q ∷ ps) b h = then h.0 (b _ (listed-safe between (q ∷ ps) b h.1))

pub commas-safe : (ps : List Printer) → AllSafe ps → Safe (commas ps)
commas-safe ps h = let q = listed-safe comma_space ps (λ q k. closed refl refl (safe (spaced k))) h in record { law = q.law }

-- between two symbols
pub within-safe : (a b : Symbol) {p : Printer} → is_free a ≡ true → is_free b ≡ true → is_closing b ≡ true → Safe p → Safe (within a b p)
within-safe a b i j k h = free i (then h (closed j k (safe nothing)))

pub in-round : (ps : List Printer) → AllSafe ps → Closed (within open_round close_round (commas ps))
in-round ps h = closed refl refl (then (commas-safe ps h) (closed refl refl (safe nothing)))

pub in-square : (ps : List Printer) → AllSafe ps → Closed (within open_square close_square (commas ps))
in-square ps h = closed refl refl (then (commas-safe ps h) (closed refl refl (safe nothing)))

pub in-curly : (ps : List Printer) → AllSafe ps → Safe (within open_curly close_curly (commas ps))
in-curly ps h = within-safe open_curly close_curly refl refl refl (commas-safe ps h)

-- ---- small parts

pub bracketed-safe : (b : Bool) (p : Printer) → Safe p → Safe (bracketed b p)
bracketed-safe true p h = within-safe open_round close_round refl refl refl h
bracketed-safe false p h = h

pub worded-safe : (b : Bool) (p : Printer) → Safe p → Safe (worded b p)
worded-safe true p h = plain refl refl (spaced h)
worded-safe false p h = h

pub tuple-safe : (ps : List Printer) → AllSafe ps → Safe (tuple_pieces ps)
tuple-safe [] h = safe (in-round [] tt)
tuple-safe (p ∷ []) h = plain refl refl (spaced (within-safe open_round close_round refl refl refl h.0))
tuple-safe (p ∷ q ∷ ps) h = safe (in-round (p ∷ q ∷ ps) h)

pub name-safe : (a : Text) → is_name_token a ≡ true → Safe (λ us. named a ∷ us)
name-safe a h = plain h refl nothing

pub names-safe : (ns : List Text) → are_name_tokens ns ≡ true → AllSafe (name_printers ns)
names-safe [] h = tt
names-safe (a ∷ ns) h = let parts = and_parts (is_name_token a) (are_name_tokens ns) h in (name-safe a parts.0, names-safe ns parts.1)

mutual
  pub pat-safe : (p : Pat) → ReadablePat p → Safe (pat_pieces p)
  pat-safe (name_pat a) h = name-safe a h
  pat-safe (tuple_pat ps) h = safe (in-round (pat_printers ps) (pats-safe ps h.1))

  pats-safe : (ps : Pats) → ReadablePats ps → AllSafe (pat_printers ps)
  pats-safe no_pats h = tt
  pats-safe (more_pats p ps) h = (pat-safe p h.0, pats-safe ps h.1)
