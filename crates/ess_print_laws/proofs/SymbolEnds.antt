-- A symbol at the front of a text is its longest token, where it ends before what follows.
use Rattle.std.proofs.Common.{◌≡◌, refl, sym, ap, ◌∙◌, subst, ℕ, suc, ◌+◌, ◌-◌, ◌≤◌, ◌<◌, Bool, true, false, ◌&&◌, ◌||◌, not, List, [], ◌∷◌, ◌++◌, length, take, drop, Some, None, arith, length-append, nat_eq, if◌then◌else◌}
use Rattle.std.proofs.Math.Seq.{take-append_seam, drop-append_seam, take-append-add}
use Rattle.std.proofs.lemmas.Bool.{and_parts, not-true, false_from_ne_true, eq-eqb, and_from}
use Rattle.std.proofs.lemmas.Slice.Eq.{bytes_eq-Decides}
use Rattle.std.specs.List.{list_all}
use Rattle.std.specs.Option.{is_some}
use Rattle.std.specs.Str.{bytes_eq}
use Rattle.ess_semantics.specs.Names.{look_by}
use Rattle.ess_grammar.specs.Words.{Text, Token, symbols, lex_symbols}
use Rattle.ess_grammar.specs.Tokens.{is_digit, is_letter, is_name_byte, begins_with_name_byte, symbol_of, token_of, or_else, only_if, longest_token, Plain}
use Rattle.ess_grammar.proofs.Longest.{Reads, longest-is}
use Rattle.ess_grammar.proofs.ByFirstByte.{token_of-other}
use Rattle.ess_print_laws.specs.Touching.{begins_with, begins_no_symbol, symbol_ends, ends_before}

-- ---- no symbol goes on

goes-on : (s : Text) (b : ℕ) (x : Text) → begins_with (s ++ b ∷ []) (s ++ b ∷ x) ≡ true
goes-on [] b x = and_from (nat_eq b b) true (eq-eqb b b refl) refl
goes-on (c ∷ cs) b x = and_from (nat_eq c c) (begins_with (cs ++ b ∷ []) (cs ++ b ∷ x)) (eq-eqb c c refl) (goes-on cs b x)

no-look : (es : List (Text × Token)) (s : Text) (b : ℕ) (x : Text) → list_all (λ e. not (begins_with (s ++ b ∷ []) e.0)) es ≡ true →
    look_by bytes_eq es (s ++ b ∷ x) ≡ None
no-look [] s b x h = refl
no-look (e ∷ es) s b x h =
    let parts = and_parts (not (begins_with (s ++ b ∷ []) e.0)) (list_all (λ e. not (begins_with (s ++ b ∷ []) e.0)) es) h in
    let no = not-true (begins_with (s ++ b ∷ []) e.0) parts.0 in
    let differs : bytes_eq e.0 (s ++ b ∷ x) ≡ false = false_from_ne_true (bytes_eq e.0 (s ++ b ∷ x)) (λ q.
    let is : e.0 ≡ s ++ b ∷ x = (bytes_eq-Decides e.0 (s ++ b ∷ x)).0 q in
    let yes : begins_with (s ++ b ∷ []) e.0 ≡ true = ap (begins_with (s ++ b ∷ [])) is ∙ goes-on s b x in cc) in
    ap (λ i. if i then Some e.1 else look_by bytes_eq es (s ++ b ∷ x)) differs ∙ no-look es s b x parts.1

only-none : (i : Bool) → only_if {A = Token} i None ≡ None
only-none true = refl
only-none false = refl

no-symbol : (s : Text) (b : ℕ) (x rest : Text) → begins_no_symbol (s ++ b ∷ []) ≡ true → symbol_of (s ++ b ∷ x) rest ≡ None
no-symbol s b x rest h =
    let parts = and_parts (list_all (λ e. not (begins_with (s ++ b ∷ []) e.0)) symbols) (list_all (λ e. not (begins_with (s ++ b ∷ []) e.0)) lex_symbols) h in
    ap (λ o. or_else o (only_if (not (begins_with_name_byte rest)) (look_by bytes_eq lex_symbols (s ++ b ∷ x))))
    (no-look symbols s b x parts.0)
    ∙ ap (only_if (not (begins_with_name_byte rest))) (no-look lex_symbols s b x parts.1)
    ∙ only-none (not (begins_with_name_byte rest))

-- ---- a symbol

-- The bytes are a symbol with this token, and begin with no letter and no digit.
pub record IsSymbol (c : ℕ) (cs : Text) (t : Token) : Type 0 where
  pub no_letter : is_letter c ≡ false
  pub no_digit : is_digit c ≡ false
  pub plain : Plain c
  pub is : (r : Text) → ends_before (c ∷ cs) r ≡ true → symbol_of (c ∷ cs) r ≡ Some t

-- one of the first table, whatever follows
pub plain-symbol : (c : ℕ) (cs : Text) (t : Token) → is_letter c ≡ false → is_digit c ≡ false → Plain c →
    look_by bytes_eq symbols (c ∷ cs) ≡ Some t → IsSymbol c cs t
plain-symbol c cs t h k p e = record {
  no_letter = h;
  no_digit = k;
  plain = p;
  is = λ r _. ap (λ o. or_else o (only_if (not (begins_with_name_byte r)) (look_by bytes_eq lex_symbols (c ∷ cs)))) e;
}

symbol-stops : (c : ℕ) (cs : Text) (b : ℕ) (bs : Text) → is_letter c ≡ false → is_digit c ≡ false → ends_before (c ∷ cs) (b ∷ bs) ≡ true → symbol_ends (c ∷ cs) b ≡ true
symbol-stops c cs b bs h k e =
    sym (ap (λ i. elim i [ true ↦ not (is_name_byte b) && not (nat_eq b 39) | false ↦ elim (is_digit c) [ true ↦ not (is_digit b) | false ↦ symbol_ends (c ∷ cs) b ] ]) h
    ∙ ap (λ i. elim i [ true ↦ not (is_digit b) | false ↦ symbol_ends (c ∷ cs) b ]) k) ∙ e

-- one that ends in letters, where no byte of a name follows
pub lex-symbol : (c : ℕ) (cs : Text) (t : Token) → is_letter c ≡ false → is_digit c ≡ false → Plain c →
    look_by bytes_eq symbols (c ∷ cs) ≡ None → look_by bytes_eq lex_symbols (c ∷ cs) ≡ Some t → IsSymbol c cs t
lex-symbol c cs t h k p none e = record { no_letter = h; no_digit = k; plain = p; is = go }
  where
    go : (r : Text) → ends_before (c ∷ cs) r ≡ true → symbol_of (c ∷ cs) r ≡ Some t
    go [] q = ap (λ o. or_else o (look_by bytes_eq lex_symbols (c ∷ cs))) none ∙ e
    go (b ∷ bs) q =
        let ends = (and_parts (begins_no_symbol ((c ∷ cs) ++ b ∷ [])) (is_some (look_by bytes_eq symbols (c ∷ cs)) || not (is_name_byte b))
        (symbol-stops c cs b bs h k q)).1 in
        let no : not (is_name_byte b) ≡ true = sym (ap (λ o. is_some o || not (is_name_byte b)) none) ∙ ends in
        ap (λ o. or_else o (only_if (not (is_name_byte b)) (look_by bytes_eq lex_symbols (c ∷ cs)))) none
        ∙ ap (λ i. only_if i (look_by bytes_eq lex_symbols (c ∷ cs))) no ∙ e

-- a symbol is read
pub symbol-is-read : (c : ℕ) (cs r : Text) (t : Token) → IsSymbol c cs t → ends_before (c ∷ cs) r ≡ true → longest_token ((c ∷ cs) ++ r) ≡ Some (t, length (c ∷ cs))
symbol-is-read c cs r t y e = longest-is token_of (length cs) (length ((c ∷ cs) ++ r)) ((c ∷ cs) ++ r) t (omega (arith, length-append cs r)) here (longer r e)
  where
    here : Reads token_of (suc (length cs)) ((c ∷ cs) ++ r) (Some t)
    here =
        ap (λ s. token_of s (drop (suc (length cs)) ((c ∷ cs) ++ r))) (take-append_seam (c ∷ cs) r)
        ∙ ap (token_of (c ∷ cs)) (drop-append_seam (c ∷ cs) r)
        ∙ token_of-other c cs r y.no_letter y.no_digit ∙ y.is r e

    further : (b : ℕ) (bs : Text) (j : ℕ) → symbol_ends (c ∷ cs) b ≡ true → Reads token_of (length (c ∷ cs) + suc j) ((c ∷ cs) ++ b ∷ bs) None
    further b bs j q =
        let rest = drop (length (c ∷ cs) + suc j) ((c ∷ cs) ++ b ∷ bs) in
        ap (λ s. token_of s rest) (take-append-add (c ∷ cs) (b ∷ bs) (suc j))
        ∙ token_of-other c (cs ++ b ∷ take j bs) rest y.no_letter y.no_digit
        ∙ no-symbol (c ∷ cs) b (take j bs) rest (and_parts (begins_no_symbol ((c ∷ cs) ++ b ∷ []))
        (is_some (look_by bytes_eq symbols (c ∷ cs)) || not (is_name_byte b)) q).0

    longer : (r : Text) → ends_before (c ∷ cs) r ≡ true → (k : ℕ) → suc (length cs) < k → k ≤ length ((c ∷ cs) ++ r) → Reads token_of k ((c ∷ cs) ++ r) None
    longer [] q k h l = absurd (omega (arith, length-append cs []))
    longer (b ∷ bs) q k h l =
        subst (λ n. Reads token_of n ((c ∷ cs) ++ b ∷ bs) None) (omega arith) (further b bs (k - length (c ∷ cs) - 1) (symbol-stops c cs b bs y.no_letter y.no_digit q))
