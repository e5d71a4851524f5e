-- A line that names representations is the line of at most one name and of at most one list of them: no representation has
-- a `+`, so the line falls into its parts in one way.
use Rattle.std.proofs.Common.{◌≡◌, refl, sym, ap, ◌∙◌, subst, Bool, true, false, ◌&&◌, not, List, [], ◌∷◌, ◌++◌, append_assoc}
use Rattle.ess_semantics.specs.declared.words.Op2.{Op2}
use Rattle.ess_semantics.specs.Values.{Text}
use Rattle.ess_semantics.specs.Trees.{Repr, Reprs, repr, more_reprs}
use Rattle.ess_grammar.specs.Words.{Token, name, operator, symbol, open_square, close_square, comma}
use Rattle.ess_grammar.specs.Representations.{Representation, Representations, childless, with_children, last_representation}
use Rattle.ess_grammar.specs.Representations.{next_representation}
use Rattle.ess_grammar.specs.HeaderTexts.{Choices, last_choice, next_choice, RepresentationLine, representation_line}
use Rattle.ess_parse_laws.proofs.RepresentationRuns.{one-representation}

-- Whether a token is `+`.
abbrev is_plus : Token → Bool
is_plus (operator Op2.Plus) = true
is_plus _ = false

-- Whether none of the tokens is.
abbrev has_no_plus : List Token → Bool
has_no_plus [] = true
has_no_plus (t ∷ ts) = not (is_plus t) && has_no_plus ts

-- A token that isn't `+`, before others.
not-and : (b c : Bool) → (not b && c) ≡ true → c ≡ true
not-and true c h = cc
not-and false c h = h

and-not : (b c d : Bool) → (not b && c) ≡ true → (c ≡ true → d ≡ true) → (not b && d) ≡ true
and-not true c d h f = cc
and-not false c d h f = f h

no-plus-behind : (xs ys : List Token) → has_no_plus xs ≡ true → has_no_plus ys ≡ true → has_no_plus (xs ++ ys) ≡ true
no-plus-behind [] ys h k = k
no-plus-behind (x ∷ xs) ys h k = and-not (is_plus x) (has_no_plus xs) (has_no_plus (xs ++ ys)) h (λ g. no-plus-behind xs ys g k)

-- ---- the tokens of a representation

-- They stand at the front, and none of them is `+`.
record Alone (r : Repr) (ts us : List Token) : Type 0 where
  front : List Token
  splits : ts ≡ front ++ us
  no_plus : has_no_plus front ≡ true
  derives : (vs : List Token) → Representation r (front ++ vs) vs

-- The same of children.
record ChildrenAlone (rs : Reprs) (ts us : List Token) : Type 0 where
  front : List Token
  splits : ts ≡ front ++ us
  no_plus : has_no_plus front ≡ true
  derives : (vs : List Token) → Representations rs (front ++ vs) vs

mutual
  alone : {r : Repr} {ts us : List Token} → Representation r ts us → Alone r ts us
  alone (childless {a = a} h) = record { front = name a ∷ []; splits = refl; no_plus = refl; derives = λ vs. childless h }
  alone (with_children {a = a} {k = k} {rs = rs} {us = us} h ds) =
      let x = children-alone ds in record {
        front = name a ∷ symbol open_square ∷ (x.front ++ symbol close_square ∷ []);
        splits = ap (λ ts. name a ∷ symbol open_square ∷ ts) (x.splits ∙ sym (append_assoc x.front (symbol close_square ∷ []) us));
        no_plus = no-plus-behind x.front (symbol close_square ∷ []) x.no_plus refl;
        derives = λ vs.
            subst (λ ts. Representation (repr k rs) (name a ∷ symbol open_square ∷ ts) vs)
            (sym (append_assoc x.front (symbol close_square ∷ []) vs)) (with_children h (x.derives (symbol close_square ∷ vs)));
      }

  children-alone : {rs : Reprs} {ts us : List Token} → Representations rs ts us → ChildrenAlone rs ts us
  children-alone (last_representation d) =
      let x = alone d in
      record { front = x.front; splits = x.splits; no_plus = x.no_plus; derives = λ vs. last_representation (x.derives vs) }
  children-alone (next_representation {r = r} {rs = rs} {us = us} {vs = vs} d ds) =
      let x = alone d in let y = children-alone ds in record {
        front = x.front ++ symbol comma ∷ y.front;
        splits = x.splits ∙ ap (λ ts. x.front ++ symbol comma ∷ ts) y.splits ∙ sym (append_assoc x.front (symbol comma ∷ y.front) vs);
        no_plus = no-plus-behind x.front (symbol comma ∷ y.front) x.no_plus y.no_plus;
        derives = λ ws.
            subst (λ ts. Representations (more_reprs r rs) ts ws) (sym (append_assoc x.front (symbol comma ∷ y.front) ws))
            (next_representation (x.derives (symbol comma ∷ (y.front ++ ws))) (y.derives ws));
      }

-- ---- where the first `+` stands

first-plus : (x : Token) (xs us vs : List Token) → (not (is_plus x) && has_no_plus xs) ≡ true → operator Op2.Plus ∷ us ≡ (x ∷ xs) ++ vs → ⊥
first-plus x xs us vs h e =
    let k : operator Op2.Plus ≡ x = cc in
    let no : false ≡ true = subst (λ t. (not (is_plus t) && has_no_plus xs) ≡ true) (sym k) h in cc

-- The tokens before it, and those behind it.
same-parts : (xs ys us vs : List Token) → has_no_plus xs ≡ true → has_no_plus ys ≡ true →
    xs ++ operator Op2.Plus ∷ us ≡ ys ++ operator Op2.Plus ∷ vs →
    (xs ≡ ys) × (us ≡ vs)
same-parts [] [] us vs h k e = (refl, cc)
same-parts [] (y ∷ ys) us vs h k e = absurd (first-plus y ys us (operator Op2.Plus ∷ vs) k e)
same-parts (x ∷ xs) [] us vs h k e = absurd (first-plus x xs vs (operator Op2.Plus ∷ us) h (sym e))
same-parts (x ∷ xs) (y ∷ ys) us vs h k e =
    let first : x ≡ y = cc in
    let r = same-parts xs ys us vs (not-and (is_plus x) (has_no_plus xs) h) (not-and (is_plus y) (has_no_plus ys) k) (cc) in
    let more : xs ≡ ys = r.0 in (cc, r.1)

-- Tokens without one aren't tokens with one.
plus-there : (ys us : List Token) → has_no_plus (ys ++ operator Op2.Plus ∷ us) ≡ true → ⊥
plus-there [] us h = cc
plus-there (y ∷ ys) us h = plus-there ys us (not-and (is_plus y) (has_no_plus (ys ++ operator Op2.Plus ∷ us)) h)

no-plus-there : (xs ys us : List Token) → has_no_plus (xs ++ []) ≡ true → xs ++ [] ≡ ys ++ operator Op2.Plus ∷ us → ⊥
no-plus-there xs ys us h e = plus-there ys us (subst (λ zs. has_no_plus zs ≡ true) e h)

-- ---- choices

one-tree : {q r : Repr} (xs ys : List Token) → xs ≡ ys → ((vs : List Token) → Representation q (xs ++ vs) vs) →
    ((vs : List Token) → Representation r (ys ++ vs) vs) → q ≡ r
one-tree {q = q} {r = r} xs ys e d g = one-representation (d []) (subst (λ zs. Representation r (zs ++ []) []) (sym e) (g []))

last-alone : {q : Repr} {us : List Token} (r : Repr) (rs : List Repr) (ts vs : List Token) → Representation q ts [] →
    Representation r vs (operator Op2.Plus ∷ us) → ts ≡ vs → ⊥
last-alone {us = us} r rs ts vs d g e =
    let x = alone d in let y = alone g in
    no-plus-there x.front y.front us (no-plus-behind x.front [] x.no_plus refl) (sym x.splits ∙ e ∙ y.splits)

-- Each list of tokens is at most one list of representations.
choices-same : {rs qs : List Repr} {ts us : List Token} → Choices rs ts → Choices qs us → ts ≡ us → rs ≡ qs
choices-same {ts = ts} {us = us} (last_choice {r = r} d) (last_choice {r = q} g) e =
    ap (λ t. t ∷ []) (one-representation d (subst (λ vs. Representation q vs []) (sym e) g))
choices-same {ts = ts} {us = us} (last_choice d) (next_choice {r = q} {rs = qs} g gs) e = absurd (last-alone q qs ts us d g e)
choices-same {ts = ts} {us = us} (next_choice {r = r} {rs = rs} d ds) (last_choice g) e = absurd (last-alone r rs us ts g d (sym e))
choices-same (next_choice {r = r} {rs = rs} {us = us} d ds) (next_choice {r = q} {rs = qs} {us = vs} g gs) e =
    let x = alone d in let y = alone g in
    let s = same-parts x.front y.front us vs x.no_plus y.no_plus (sym x.splits ∙ e ∙ y.splits) in
    let first : r ≡ q = one-tree x.front y.front s.0 x.derives y.derives in
    let more : rs ≡ qs = choices-same ds gs s.1 in cc

line-same : {a b : Text} {rs qs : List Repr} {ts us : List Token} → RepresentationLine a rs ts → RepresentationLine b qs us → ts ≡ us →
    ◌≡◌ {A = Text × List Repr} (a, rs) (b, qs)
line-same (representation_line {a = a} {rs = rs} d) (representation_line {a = b} {rs = qs} g) e =
    let same : a ≡ b = cc in let more : rs ≡ qs = choices-same d g (cc) in cc

-- Each list of tokens is the line of at most one name with its representations.
pub one-line : {a b : Text} {rs qs : List Repr} {ts : List Token} → RepresentationLine a rs ts → RepresentationLine b qs ts →
    ◌≡◌ {A = Text × List Repr} (a, rs) (b, qs)
one-line d g = line-same d g refl
