-- Which text a printer writes before what follows, put together from its parts.
use Rattle.std.proofs.Common.{◌≡◌, refl, sym, ap, ◌∙◌, subst, List, [], ◌∷◌, ◌++◌, codes, append_assoc, append-nil}
use Rattle.ess_semantics.specs.Values.{Text}
use Rattle.ess_grammar.specs.Words.{Symbol, comma}
use Rattle.ess_grammar.specs.ValueTexts.{with_commas}
use Rattle.ess_print_laws.specs.TokenTexts.{symbol_text}
use Rattle.ess_print_laws.specs.Pieces.{Piece, space, piece_text, text_of, Printer, sign, within}
use Rattle.ess_print_laws.specs.Parts.{comma_space, commas}

-- It writes this text, and then what follows.
pub record Prints (p : Printer) (t : Text) : Type 0 where
  pub law : (us : List Piece) → text_of (p us) ≡ t ++ text_of us

-- Alone it writes this text.
pub alone : {p : Printer} {t : Text} → Prints p t → text_of (p []) ≡ t
alone {t = t} h = h.law [] ∙ append-nil t

-- The same text, written otherwise.
pub as-text : {p : Printer} {t u : Text} → t ≡ u → Prints p t → Prints p u
as-text {p = p} e h = subst (Prints p) e h

pub nothing-prints : Prints (λ us. us) []
nothing-prints = record { law = λ us. refl }

pub one-prints : (a : Piece) → Prints (λ us. a ∷ us) (piece_text a)
one-prints a = record { law = λ us. refl }

pub front-prints : (a : Piece) {p : Printer} {t : Text} → Prints p t → Prints (λ us. a ∷ p us) (piece_text a ++ t)
front-prints a {t = t} h = record { law = λ us. ap (λ r. piece_text a ++ r) (h.law us) ∙ sym (append_assoc (piece_text a) t (text_of us)) }

pub then-prints : {p q : Printer} {t u : Text} → Prints p t → Prints q u → Prints (λ us. p (q us)) (t ++ u)
then-prints {q = q} {t = t} {u = u} h k = record { law = λ us. h.law (q us) ∙ ap (λ r. t ++ r) (k.law us) ∙ sym (append_assoc t u (text_of us)) }

pub within-prints : (a b : Symbol) {p : Printer} {t : Text} → Prints p t → Prints (within a b p) (symbol_text a ++ (t ++ symbol_text b))
within-prints a b h = front-prints (sign a) (then-prints h (one-prints (sign b)))

-- Printers with their texts.
abbrev pub AllPrint : List Printer → List Text → Type 0
AllPrint [] [] = Unit {0}
AllPrint (p ∷ ps) (t ∷ ts) = Prints p t × AllPrint ps ts
AllPrint ps ts = ⊥

pub commas-print : (ps : List Printer) (ts : List Text) → AllPrint ps ts → Prints (commas ps) (with_commas ts)
commas-print [] [] h = record { law = λ us. refl }
commas-print [] (t ∷ ts) h = absurd h
commas-print (p ∷ ps) [] h = absurd h
commas-print (p ∷ []) (t ∷ []) h = record { law = h.0.law }
commas-print (p ∷ []) (t ∷ u ∷ ts) h = absurd h.1
commas-print (p ∷ q ∷ ps) (t ∷ []) h = absurd h.1
commas-print (p ∷ q ∷ ps) (t ∷ u ∷ ts) h =
    let k = then-prints {q = λ us. comma_space (commas (q ∷ ps) us)} h.0 (front-prints (sign comma) (front-prints space (commas-print (q ∷ ps) (u ∷ ts) h.1))) in
    as-text (sym (append_assoc t (codes ", ") (with_commas (u ∷ ts)))) (record { law = k.law })
