-- What is read of a piece.
use Rattle.std.proofs.Common.{◌≡◌, refl, sym, ap, ◌∙◌, subst, ℕ, zero, suc, ◌+◌, ◌<◌, ◌≤◌, true, false, List, [], ◌∷◌, ◌++◌, map, length, take, get_or, Option, Some, None, arith, Bor}
use Rattle.std.specs.Prelude.{Ok, Err}
use Rattle.std.specs.declared.result.Result.{Result}
use Rattle.std.proofs.lemmas.List.{map-append, take_more, take_all}
use Rattle.ess_semantics.specs.Values.{Text}
use Rattle.ess_semantics.specs.Trees as pure
use Rattle.ess_semantics.specs.Kinds.{fits}
use Rattle.ess_grammar.specs.Tokens.{lexed, first_outside}
use Rattle.ess_grammar.specs.Load.{too_deep}
use Rattle.ess_grammar.specs.Texts.{IsWithinLimits}
use Rattle.ess_grammar.specs.Representations.{IsRepresentation}
use Rattle.ess_core.specs.declared.representations.Repr.{Repr}
use Rattle.ess_core.specs.TreeViews.{pure_repr}
use Rattle.ess_lex.specs.Lexing.{refusal}
use Rattle.ess_parse.specs.declared.refusal.ReadNo.{ReadNo}
use Rattle.ess_parse.specs.Refusals.{refused_first}
use Rattle.ess_parse.specs.Readers.{IsRefusedFirst, IsDerived, IsAnswered}
use Rattle.ess_parse.proofs.FirstRefusals.{none-first}
use Rattle.conjure_laws.specs.SideBySide.{Along}
use Rattle.conjure_options.specs.Filled.{filled}
use Rattle.conjure_options.specs.Items.{IsTree, IsOnly, IsReprRead, IsTreeOrNone, AreTreesOrNone}

-- A text that isn't refused before its grammar is looked at is within the limits.
unrefused-limits : (text : Text) → refused_first text ≡ None → IsWithinLimits text
unrefused-limits text h =
    let q : _ = none-first (refusal (lexed text)) (first_outside (lexed text)) (too_deep (lexed text)) h in
    (q.1, q.2)

-- What the reader answers, without its places.
pub repr_read : (text : Text) (r : Result Repr ReadNo) → IsRefusedFirst text r → IsDerived IsRepresentation pure_repr text r
    → IsAnswered IsRepresentation pure_repr text r → IsReprRead text r
repr_read text (Ok t) first derived answered = ((derived, unrefused-limits text first), λ s spells. sym (answered s spells.0 spells.1))
repr_read text (Err ReadNo.NoMemory) first derived answered = tt
repr_read text (Err (ReadNo.BadByte p)) first derived answered = λ s spells. answered s spells.0 spells.1
repr_read text (Err (ReadNo.WideNumber p)) first derived answered = λ s spells. answered s spells.0 spells.1
repr_read text (Err (ReadNo.Unsupported p)) first derived answered = λ s spells. answered s spells.0 spells.1
repr_read text (Err (ReadNo.TooDeep p)) first derived answered = λ s spells. answered s spells.0 spells.1
repr_read text (Err (ReadNo.Syntax p)) first derived answered = λ s spells. answered s spells.0 spells.1

-- ---- one piece

-- A text that is refused is no representation of the domain.
pub unread : (text : Text) (d : pure.Dom) (no : ReadNo) → (no ≡ ReadNo.NoMemory → ⊥) → IsReprRead text (Err no) → IsTreeOrNone d text None
unread text d ReadNo.NoMemory some read = absurd (some refl)
unread text d (ReadNo.BadByte p) some read = λ t tree. read tree.written tree.spells
unread text d (ReadNo.WideNumber p) some read = λ t tree. read tree.written tree.spells
unread text d (ReadNo.Unsupported p) some read = λ t tree. read tree.written tree.spells
unread text d (ReadNo.TooDeep p) some read = λ t tree. read tree.written tree.spells
unread text d (ReadNo.Syntax p) some read = λ t tree. read tree.written tree.spells

-- the only tree that a piece may be
only-tree : (text : Text) (d : pure.Dom) (r t : Repr) → IsReprRead text (Ok r) → pure_repr t ≡ filled (pure_repr r) d
    → (u : pure.Repr) → IsTree d text u → u ≡ pure_repr t
only-tree text d r t read fills u tree = tree.whole ∙ ap (λ w. filled w d) (read.1 tree.written tree.spells) ∙ sym fills

-- A representation that doesn't fit is none of the domain.
pub misfit : (text : Text) (d : pure.Dom) (r t : Repr) → IsReprRead text (Ok r) → pure_repr t ≡ filled (pure_repr r) d
    → fits (pure_repr t) d ≡ false → IsTreeOrNone d text None
misfit text d r t read fills unfit = λ u tree.
    let h : true ≡ false = sym tree.fitting ∙ ap (λ w. fits w d) (only-tree text d r t read fills u tree) ∙ unfit in cc

-- One that fits is the only one that the text is.
pub fitting : (text : Text) (d : pure.Dom) (r t : Repr) → IsReprRead text (Ok r) → pure_repr t ≡ filled (pure_repr r) d
    → fits (pure_repr t) d ≡ true → IsTreeOrNone d text (Some t)
fitting text d r t read fills fit = (
  record { written = pure_repr r; spells = read.0; whole = fills; fitting = fit },
  only-tree text d r t read fills,
)

-- ---- all pieces

-- The texts of pieces.
abbrev pub texts : List (Bor Text) → List Text
texts ps = map (λ p. p.now) ps

-- Trees beside pieces, and no others.
abbrev pub AreOnly : pure.Dom → List Text → List pure.Repr → Type 0
AreOnly d ps ts = IsOnly (λ us. Along ps us (IsTree d)) ts

module _ {A B : Type 0} (R : A → B → Type 0) where
  along-snoc : (xs : List A) (x : A) (ys : List B) (y : B) → Along xs ys R → R x y → Along (xs ++ x ∷ []) (ys ++ y ∷ []) R
  along-snoc [] x [] y h k = (k, tt)
  along-snoc [] x (z ∷ ys) y h k = absurd h
  along-snoc (w ∷ xs) x [] y h k = absurd h
  along-snoc (w ∷ xs) x (z ∷ ys) y h k = (h.0, along-snoc xs x ys y h.1 k)

  along-parts : (xs : List A) (x : A) (zs : List B) → Along (xs ++ x ∷ []) zs R
      → (ys : List B) × (y : B) × (zs ≡ ys ++ y ∷ []) × Along xs ys R × R x y
  along-parts [] x [] h = absurd h
  along-parts [] x (z ∷ []) h = ([], z, refl, tt, h.0)
  along-parts [] x (z ∷ w ∷ zs) h = absurd h.1
  along-parts (v ∷ xs) x [] h = absurd h
  along-parts (v ∷ xs) x (z ∷ zs) h =
      let q = along-parts xs x zs h.1 in (z ∷ q.0, q.1, ap (λ l. z ∷ l) q.2, (h.0, q.3), q.4)

  along-at : (xs : List A) (ys : List B) (i : ℕ) (x : A) → Along xs ys R → i < length xs → x ≡ get_or xs i x → (y : B) × R x y
  along-at [] ys i x h lt is = absurd (omega arith)
  along-at (v ∷ xs) [] i x h lt is = absurd h
  along-at (v ∷ xs) (z ∷ ys) zero x h lt is = (z, subst (λ a. R a z) (sym is) h.0)
  along-at (v ∷ xs) (z ∷ ys) (suc i) x h lt is = along-at xs ys i x h.1 (omega arith) is

-- Before the first piece nothing is read.
pub trees_none : (d : pure.Dom) → AreOnly d [] []
trees_none d = (tt, none)
  where
    none : (us : List pure.Repr) → Along [] us (IsTree d) → us ≡ []
    none [] h = refl
    none (u ∷ us) h = absurd h

-- A piece more, with its representation.
pub trees_more : (d : pure.Dom) (ps : List (Bor Text)) (i : ℕ) (p : Bor Text) (ts us : List Repr) (t : Repr) (o : Option Repr)
    → i < length ps
    → us ≡ ts ++ t ∷ [] → AreOnly d (texts (take i ps)) (map pure_repr ts) → o ≡ Some t → IsTreeOrNone d (get_or ps i p).now o
    → AreOnly d (texts (take (i + 1) ps)) (map pure_repr us)
trees_more d ps i p ts us t o lt adds so is found =
    subst (λ xs. AreOnly d xs (map pure_repr us)) (sym front)
    (subst (λ l. AreOnly d (texts (take i ps) ++ (get_or ps i p).now ∷ []) l)
    (sym (ap (map pure_repr) adds ∙ map-append pure_repr ts (t ∷ []))) (both, only))
  where
    here : IsTreeOrNone d (get_or ps i p).now (Some t)
    here = subst (IsTreeOrNone d (get_or ps i p).now) is found

    front : texts (take (i + 1) ps) ≡ texts (take i ps) ++ (get_or ps i p).now ∷ []
    front = ap texts (take_more ps i p lt) ∙ map-append (λ q. q.now) (take i ps) (get_or ps i p ∷ [])

    both : Along (texts (take i ps) ++ (get_or ps i p).now ∷ []) (map pure_repr ts ++ pure_repr t ∷ []) (IsTree d)
    both = along-snoc (IsTree d) (texts (take i ps)) (get_or ps i p).now (map pure_repr ts) (pure_repr t) so.0 here.0

    only : (zs : List pure.Repr) → Along (texts (take i ps) ++ (get_or ps i p).now ∷ []) zs (IsTree d)
        → zs ≡ map pure_repr ts ++ pure_repr t ∷ []
    only zs h =
        let q = along-parts (IsTree d) (texts (take i ps)) (get_or ps i p).now zs h in
        q.2 ∙ ap (λ l. l ++ q.1 ∷ []) (so.1 q.0 q.3) ∙ ap (λ u. map pure_repr ts ++ u ∷ []) (here.1 q.1 q.4)

long : (ps : List (Bor Text)) (i : ℕ) → i < length ps → i < length (texts ps)
long [] i lt = absurd (omega arith)
long (p ∷ ps) zero lt = omega arith
long (p ∷ ps) (suc i) lt = let h = long ps i (omega arith) in omega arith

text-at : (ps : List (Bor Text)) (i : ℕ) (p : Bor Text) (a : Text) → i < length ps → (get_or ps i p).now ≡ get_or (texts ps) i a
text-at [] i p a lt = absurd (omega arith)
text-at (q ∷ ps) zero p a lt = refl
text-at (q ∷ ps) (suc i) p a lt = text-at ps i p a (omega arith)

-- Where a piece is no representation of the domain, the pieces are none.
pub trees_refused : (d : pure.Dom) (ps : List (Bor Text)) (i : ℕ) (p : Bor Text) (o : Option Repr) → i < length ps → o ≡ None
    → IsTreeOrNone d (get_or ps i p).now o → AreTreesOrNone d (texts ps) None
trees_refused d ps i p o lt is found = λ us h.
    let here : IsTreeOrNone d (get_or ps i p).now None = subst (IsTreeOrNone d (get_or ps i p).now) is found in
    let q = along-at (IsTree d) (texts ps) us i (get_or ps i p).now h (long ps i lt) (text-at ps i p (get_or ps i p).now lt) in here q.0 q.1

-- Behind the last piece they are the representations of all.
pub trees_all : (d : pure.Dom) (ps : List (Bor Text)) (i : ℕ) (ts : List Repr) → length ps ≤ i
    → AreOnly d (texts (take i ps)) (map pure_repr ts)
    → AreTreesOrNone d (texts ps) (Some ts)
trees_all d ps i ts le so = subst (λ xs. AreOnly d (texts xs) (map pure_repr ts)) (take_all i ps le) so
