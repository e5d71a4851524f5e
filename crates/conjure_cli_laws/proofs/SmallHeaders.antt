-- The lines of the header of the small model are those of the specification's statements and representations.
use Rattle.std.proofs.Common.{◌≡◌, refl, sym, ap, ◌∙◌, subst, ℕ, ◌<◌, Bool, true, false, ◌&&◌, not, List, [], ◌∷◌, ◌++◌, map, filter, pos, codes, nat_lt, ◌^◌, arith, decimal, slice_index, zero, suc}
use Rattle.std.specs.List.{list_all}
use Rattle.std.specs.Str.{is_utf8, IsUtf8}
use Rattle.std.proofs.lemmas.Str.{IsUtf8-from_ascii, IsUtf8-append, IsUtf8-nil, is_utf8-from_IsUtf8}
use Rattle.std.proofs.lemmas.Bool.{ltb-true}
use Rattle.std.proofs.lemmas.Bool.Decides.{nat_tests}
use Rattle.ess_semantics.specs.Lists.{append_all}
use Rattle.ess_semantics.specs.Values.{Text}
use Rattle.ess_semantics.specs.Names.{Names}
use Rattle.ess_semantics.specs.Trees.{Repr, repr, no_reprs, Stm}
use Rattle.ess_semantics.specs.Trees as tree
use Rattle.ess_semantics.specs.Plans.{domain_of_stm, chosen_reprs, all_chosen}
use Rattle.ess_semantics.specs.Contexts.{Each}
use Rattle.ess_semantics.specs.ModelTrees.{in_header, header_of}
use Rattle.ess_semantics.proofs.Tests.{and-left, and-right, and-both}
use Rattle.ess_grammar.specs.Words.{Token, name}
use Rattle.ess_grammar.specs.Places.{is_line_feed}
use Rattle.ess_grammar.specs.Tokens.{lexed, is_digit, tokens, first_outside}
use Rattle.ess_grammar.specs.Readable.{ReadableStm}
use Rattle.ess_grammar.specs.Representations.{childless}
use Rattle.ess_grammar.specs.Statements.{Statement}
use Rattle.ess_grammar.specs.Texts.{Reads, IsWithinLimits}
use Rattle.ess_grammar.specs.HeaderTexts.{RepresentationLine, representation_line, last_choice, RepresentationLines, end_line, next_representation_line, StatementLines, no_more_statements, next_statement_line, IsHeader, header}
use Rattle.ess_print_laws.proofs.Statements.{stm-derived}
use Rattle.ess_print_laws.proofs.Digits.{Writes, decimal-writes}
use Rattle.eprime_tree.specs.ModelText.{is_head_line}
use Rattle.conjure_laws.specs.SetsOfAtoms.{range, sets_of}
use Rattle.conjure_laws.specs.ModelsOfSets.{no_options}
use Rattle.conjure_laws.proofs.SetScopes.{prepared-itself}
use Rattle.conjure_laws.proofs.SetPlans.{Occ}
use Rattle.conjure_cli_laws.specs.SmallGrammar.{find, such_that, each_find}
use Rattle.conjure_cli_laws.specs.SmallGrammar as small
use Rattle.conjure_cli_laws.specs.Words as own
use Rattle.conjure_cli_laws.specs.Words.{language_words}
use Rattle.conjure_cli_laws.specs.ModelText.{domain}
use Rattle.conjure_cli_laws.specs.SmallSets.{lines, specification, head_find, head_repr, small_head}
use Rattle.conjure_cli_laws.proofs.SmallNames.{name-spelled}
use Rattle.conjure_cli_laws.proofs.SmallStatements.{Spelled, IsRead}
use Rattle.conjure_cli_laws.proofs.SmallTexts.{concat-before}
use Rattle.conjure_cli_laws.proofs.Bits.{bit, gap, Bit, bits_text, bits_tokens, bits-read, nothing-read, Apart}
use Rattle.conjure_cli_laws.proofs.Bits as bits
use Rattle.conjure_cli_laws.proofs.SmallLines.{find_bits, find-apart, printed-spells, name-ends}
use Rattle.ess_grammar.specs.Load.{too_deep}

-- ---- lines that are read

-- A line with these tokens, and no load to speak of, is within the limits.
line-read : (l : Text) (bs : List Bit) (P : List Token → Type 0) → bits_text bs [] ≡ l → Apart bs [] →
    bits.is_shallow false [] (bits_tokens bs []) ≡ true →
    P (bits_tokens bs []) → Reads l P × IsWithinLimits l
line-read l bs P e a s p =
    let r = bits-read bs [] [] a nothing-read [] in (
      (bits_tokens bs [], ap (λ t. tokens t) (sym e) ∙ r.tokens, p),
      (
        ap (λ t. first_outside (lexed t)) (sym e)
            ∙ r.inside,
        ap (λ t. too_deep (lexed t)) (sym e) ∙ r.load false [] s,
      ),
    )

-- The statement of a find.
abbrev pub find_stm : Text → ℕ → ℕ → Stm
find_stm x a b = tree.find x (sets_of (range (pos a) (pos b)))

-- It is one that a text has.
pub find-readable : (x : Text) (a b : ℕ) → small.is_name x ≡ true → IsRead a → IsRead b → ReadableStm (find_stm x a b)
find-readable x a b h p q = (name-spelled x h, (refl, tt, (refl, (p, (q, tt)))))

writes : (n : ℕ) → IsRead n → Writes n (decimal n)
writes n h = decimal-writes n (below n h)
  where
    below : (n : ℕ) → nat_lt n (2 ^ 63) ≡ true → n < 2 ^ 64
    below n h = let z : n < 2 ^ 63 = ltb-true n (2 ^ 63) h in omega arith

find-line : (x : Text) (a b : ℕ) → small.is_name x ≡ true → IsRead a → IsRead b →
    Reads (head_find x a b) (λ ts. Statement (find_stm x a b ∷ []) ts []) × IsWithinLimits (head_find x a b)
find-line x a b h p q =
    line-read (head_find x a b) (find_bits x a (decimal a) b (decimal b)) (λ ts. Statement (find_stm x a b ∷ []) ts [])
    (sym (sym (nothing (head_find x a b)) ∙ concat-before (codes "find " ∷ x ∷ codes " : set of " ∷ domain a b ∷ []) []
    ∙ ap (λ t. codes "find " ++ (x ++ (codes " : set of " ++ t)))
    (concat-before (codes "int(" ∷ decimal a ∷ codes ".." ∷ decimal b ∷ codes ")" ∷ []) [])))
    (find-apart x a (decimal a) b (decimal b) [] h (writes a p) p (writes b q) q refl) refl
    (stm-derived (find_stm x a b) (find-readable x a b h p q) [])
  where
    nothing : (t : Text) → t ++ [] ≡ t
    nothing [] = refl
    nothing (b ∷ t) = ap (λ l. b ∷ l) (nothing t)

repr_bits : Text → List Bit
repr_bits x = bit (name (codes "repr")) (codes "repr") ∷ gap 32 ∷ bit (name x) x ∷ gap 32 ∷ bit (name (codes "Occurrence"))
    (codes "Occurrence") ∷ []

repr-line : (x : Text) (a b : ℕ) → small.is_name x ≡ true →
    Reads (head_repr x a b) (RepresentationLine x (Occ ∷ [])) × IsWithinLimits (head_repr x a b)
unfolding repr_bits
repr-line x a b h =
    line-read (head_repr x a b) (repr_bits x) (RepresentationLine x (Occ ∷ [])) refl (
      printed-spells (name (codes "repr")) refl,
      refl,
      (
        refl,
        (
          printed-spells (name x) (name-spelled x h),
          name-ends x h 32 (codes "Occurrence") refl,
          (refl, (printed-spells (name (codes "Occurrence")) refl, refl, tt)),
        ),
      ),
    )
    refl (representation_line (last_choice (childless refl)))

-- ---- the header

stms-are : (ss : List small.Statement) → filter in_header (specification ss) ≡ each_find find_stm ss
stms-are [] = refl
stms-are (find x a b ∷ ss) = ap (λ l. find_stm x a b ∷ l) (stms-are ss)
stms-are (such_that k x ∷ ss) = stms-are ss

-- The representations of the finds.
abbrev kept : List small.Statement → Names (List Repr)
kept ss = each_find (λ x a b. (x, Occ ∷ [])) ss

reprs-from : (ss : List small.Statement) → map (λ x. (x.0, chosen_reprs no_options x.0 x.1))
    (append_all (map domain_of_stm (specification ss))) ≡ kept ss
reprs-from [] = refl
reprs-from (find x a b ∷ ss) = ap (λ l. (x, Occ ∷ []) ∷ l) (reprs-from ss)
reprs-from (such_that k x ∷ ss) = reprs-from ss

reprs-are : (ss : List small.Statement) → all_chosen (specification ss) no_options ≡ kept ss
reprs-are ss = ap (λ S. map (λ x. (x.0, chosen_reprs no_options x.0 x.1)) (append_all (map domain_of_stm S)))
    (prepared-itself (lines ss)) ∙ reprs-from ss

repr-lines : (ss : List small.Statement) → Spelled ss → RepresentationLines (kept ss) (each_find head_repr ss ++ (codes "end-header" ∷ []))
repr-lines [] s = end_line
repr-lines (find x a b ∷ ss) s = next_representation_line (repr-line x a b s.0).0 (repr-lines ss s.3)
repr-lines (such_that k x ∷ ss) s = repr-lines ss s.2

stm-lines : (ss all : List small.Statement) → Spelled ss → Spelled all →
    StatementLines (each_find find_stm ss) (kept all) (each_find head_find ss ++ (each_find head_repr all ++ (codes "end-header" ∷ [])))
stm-lines [] all s t = no_more_statements (repr-lines all t)
stm-lines (find x a b ∷ ss) all s t = next_statement_line (find-line x a b s.0 s.1 s.2).0 (stm-lines ss all s.3 t)
stm-lines (such_that k x ∷ ss) all s t = stm-lines ss all s.2 t

-- The lines are the header of the specification.
pub small-header : (ss : List small.Statement) → Spelled ss → IsHeader (header_of (specification ss) no_options) (small_head ss)
small-header ss s =
    subst (λ l. IsHeader (record { statements = l; reprs = all_chosen (specification ss) no_options }) (small_head ss)) (sym (stms-are ss))
    (subst (λ c. IsHeader (record { statements = each_find find_stm ss; reprs = c }) (small_head ss)) (sym (reprs-are ss))
    (header (stm-lines ss ss s s)))

reprs-within : (ss : List small.Statement) → Spelled ss → Each (each_find head_repr ss ++ (codes "end-header" ∷ [])) IsWithinLimits
reprs-within [] s = ((refl, refl), tt)
reprs-within (find x a b ∷ ss) s = ((repr-line x a b s.0).1, reprs-within ss s.3)
reprs-within (such_that k x ∷ ss) s = reprs-within ss s.2

stms-within : (ss all : List small.Statement) → Spelled ss → Spelled all →
    Each (each_find head_find ss ++ (each_find head_repr all ++ (codes "end-header" ∷ []))) IsWithinLimits
stms-within [] all s t = reprs-within all t
stms-within (find x a b ∷ ss) all s t = ((find-line x a b s.0 s.1 s.2).1, stms-within ss all s.3 t)
stms-within (such_that k x ∷ ss) all s t = stms-within ss all s.2 t

-- Each of them is within the limits.
pub small-within : (ss : List small.Statement) → Spelled ss → Each (small_head ss) IsWithinLimits
small-within ss s = ((refl, refl), stms-within ss ss s s)

-- ---- bytes of the lines

-- A byte of ASCII that ends no line.
abbrev plain : ℕ → Bool
plain b = nat_lt b 128 && not (is_line_feed b)

plain-utf8 : (bs : Text) → list_all plain bs ≡ true → IsUtf8 bs
plain-utf8 [] h = IsUtf8-nil
plain-utf8 (b ∷ bs) h =
    let p = and-left (nat_lt b 128) (not (is_line_feed b)) (and-left (plain b) (list_all plain bs) h) in
    IsUtf8-append (b ∷ []) bs (IsUtf8-from_ascii (b ∷ []) (λ i. one i (ltb-true b 128 p)))
    (plain-utf8 bs (and-right (plain b) (list_all plain bs) h))
  where
    one : (i : ℕ) → b < 128 → slice_index (b ∷ []) i < 128
    one zero h = h
    one (suc i) h = omega arith

plain-line : (bs : Text) → list_all plain bs ≡ true → is_head_line bs ≡ true
plain-line bs h = and-both (is_utf8 bs) (list_all (λ b. not (is_line_feed b)) bs) (is_utf8-from_IsUtf8 bs (plain-utf8 bs h)) (all bs h)
  where
    all : (bs : Text) → list_all plain bs ≡ true → list_all (λ b. not (is_line_feed b)) bs ≡ true
    all [] h = refl
    all (b ∷ bs) h = and-both (not (is_line_feed b)) (list_all (λ b. not (is_line_feed b)) bs)
        (and-right (nat_lt b 128) (not (is_line_feed b)) (and-left (plain b) (list_all plain bs) h))
        (all bs (and-right (plain b) (list_all plain bs) h))

plain-append : (xs ys : Text) → list_all plain xs ≡ true → list_all plain ys ≡ true → list_all plain (xs ++ ys) ≡ true
plain-append [] ys h k = k
plain-append (x ∷ xs) ys h k = and-both (plain x) (list_all plain (xs ++ ys)) (and-left (plain x) (list_all plain xs) h)
    (plain-append xs ys (and-right (plain x) (list_all plain xs) h) k)

plain-name : (x : Text) → small.is_name x ≡ true → list_all plain x ≡ true
plain-name [] h = cc
plain-name (b ∷ bs) h =
    let p = and-left (small.is_letter b && list_all small.is_name_byte bs) (not (own.is_among language_words (b ∷ bs))) h in
    and-both (plain b) (list_all plain bs) (letter b (and-left (small.is_letter b) (list_all small.is_name_byte bs) p))
    (rest bs (and-right (small.is_letter b) (list_all small.is_name_byte bs) p))
  where
    letter : (b : ℕ) → small.is_letter b ≡ true → plain b ≡ true
    letter b h = grind (arith, nat_tests)

    byte : (b : ℕ) → small.is_name_byte b ≡ true → plain b ≡ true
    byte b h = grind (arith, nat_tests)

    rest : (bs : Text) → list_all small.is_name_byte bs ≡ true → list_all plain bs ≡ true
    rest [] h = refl
    rest (b ∷ bs) h = and-both (plain b) (list_all plain bs)
        (byte b (and-left (small.is_name_byte b) (list_all small.is_name_byte bs) h))
        (rest bs (and-right (small.is_name_byte b) (list_all small.is_name_byte bs) h))

plain-digits : (bs : Text) → list_all is_digit bs ≡ true → list_all plain bs ≡ true
plain-digits [] h = refl
plain-digits (b ∷ bs) h = and-both (plain b) (list_all plain bs) (digit b (and-left (is_digit b) (list_all is_digit bs) h))
    (plain-digits bs (and-right (is_digit b) (list_all is_digit bs) h))
  where
    digit : (b : ℕ) → is_digit b ≡ true → plain b ≡ true
    digit b h = grind (arith, nat_tests)

plain-domain : (a b : ℕ) → IsRead a → IsRead b → list_all plain (domain a b) ≡ true
plain-domain a b p q =
    plain-append (decimal a) (codes ".." ++ (decimal b ++ (codes ")" ++ []))) (plain-digits (decimal a) (writes a p).digits)
    (plain-append (decimal b) (codes ")" ++ []) (plain-digits (decimal b) (writes b q).digits) refl)

find-plain : (ss : List small.Statement) → Spelled ss → list_all is_head_line (each_find head_find ss) ≡ true
find-plain [] s = refl
find-plain (such_that k x ∷ ss) s = find-plain ss s.2
find-plain (find x a b ∷ ss) s =
    and-both (is_head_line (head_find x a b)) (list_all is_head_line (each_find head_find ss))
    (plain-line (head_find x a b) (plain-append x (codes " : set of " ++ (domain a b ++ [])) (plain-name x s.0)
    (plain-append (domain a b) [] (plain-domain a b s.1 s.2) refl)))
    (find-plain ss s.3)

repr-plain : (ss : List small.Statement) → Spelled ss → list_all is_head_line (each_find head_repr ss) ≡ true
repr-plain [] s = refl
repr-plain (such_that k x ∷ ss) s = repr-plain ss s.2
repr-plain (find x a b ∷ ss) s =
    and-both (is_head_line (head_repr x a b)) (list_all is_head_line (each_find head_repr ss))
    (plain-line (head_repr x a b) (plain-append x (codes " Occurrence" ++ []) (plain-name x s.0) refl)) (repr-plain ss s.3)

lines-append : (xs ys : List Text) → list_all is_head_line xs ≡ true → list_all is_head_line ys ≡ true →
    list_all is_head_line (xs ++ ys) ≡ true
lines-append [] ys h k = k
lines-append (x ∷ xs) ys h k = and-both (is_head_line x) (list_all is_head_line (xs ++ ys))
    (and-left (is_head_line x) (list_all is_head_line xs) h)
    (lines-append xs ys (and-right (is_head_line x) (list_all is_head_line xs) h) k)

-- They may stand in a header.
pub small-head-lines : (ss : List small.Statement) → Spelled ss → list_all is_head_line (small_head ss) ≡ true
small-head-lines ss s =
    and-both (is_head_line (codes "conjure-header 1"))
    (list_all is_head_line (each_find head_find ss ++ (each_find head_repr ss ++ (codes "end-header" ∷ []))))
    (plain-line (codes "conjure-header 1") refl)
    (lines-append (each_find head_find ss) (each_find head_repr ss ++ (codes "end-header" ∷ [])) (find-plain ss s)
    (lines-append (each_find head_repr ss) (codes "end-header" ∷ []) (repr-plain ss s)
    (and-both (is_head_line (codes "end-header")) true (plain-line (codes "end-header") refl) refl)))
