-- The laws of the machine for lines that name representations.
use Rattle.std.proofs.Common.{◌≡◌, refl, sym, ap, ◌∙◌, subst, Bool, true, false, if◌then◌else◌, List, [], ◌∷◌, ◌++◌, append_assoc, append-nil, Option, Some, None, codes}
use Rattle.std.specs.Str.{bytes_eq}
use Rattle.std.proofs.lemmas.Slice.Eq.{bytes_eq-Decides}
use Rattle.std.proofs.lemmas.Option.{same_Some}
use Rattle.ess_semantics.specs.declared.words.Op2.{Op2}
use Rattle.ess_semantics.specs.Values.{Text}
use Rattle.ess_semantics.specs.Trees.{Repr, Reprs, repr, more_reprs}
use Rattle.ess_grammar.specs.Words.{Token, Word, word, name, operator, symbol, open_square, close_square, comma}
use Rattle.ess_grammar.specs.Representations.{Representation, Representations, IsRepresentation, childless, with_children, last_representation, next_representation}
use Rattle.ess_grammar.specs.HeaderTexts.{Choices, last_choice, next_choice, RepresentationLine, representation_line}
use Rattle.ess_parse_laws.specs.RepresentationMachine.{ReprFrame, ReprMode, kind_wanted, kind_read, repr_read, ReprState, repr_step}
use Rattle.ess_parse.specs.Machines.{step_representation, finish_representation, start_representation}
use Rattle.ess_parse.specs.NamedRepresentations.{Named, IsRepresentationLine, LineState, word_wanted, name_wanted, tree_begun, further, next_tree, step_line, with_last, finish_line}
use Rattle.ess_parse.proofs.Runs.{from_state, state_behind, tree_of, IsMachineFor, behind-more, never-behind}
use Rattle.ess_parse.proofs.RepresentationLaws.{representation-laws}

-- ---- representations with tokens behind them

mutual
  -- A representation with other tokens behind it.
  more-behind : {r : Repr} {ts us : List Token} → Representation r ts us → (vs : List Token) → Representation r (ts ++ vs) (us ++ vs)
  more-behind (childless h) vs = childless h
  more-behind (with_children h ds) vs = with_children h (children-behind ds vs)

  children-behind : {rs : Reprs} {ts us : List Token} → Representations rs ts us → (vs : List Token) → Representations rs (ts ++ vs) (us ++ vs)
  children-behind (last_representation d) vs = last_representation (more-behind d vs)
  children-behind (next_representation d ds) vs = next_representation (more-behind d vs) (children-behind ds vs)

-- The tokens of a representation alone.
record Alone (r : Repr) (ts us : List Token) : Type 0 where
  front : List Token
  splits : ts ≡ front ++ us
  derives : (vs : List Token) → Representation r (front ++ vs) vs

-- The same of children.
record ChildrenAlone (rs : Reprs) (ts us : List Token) : Type 0 where
  front : List Token
  splits : ts ≡ front ++ us
  derives : (vs : List Token) → Representations rs (front ++ vs) vs

mutual
  alone : {r : Repr} {ts us : List Token} → Representation r ts us → Alone r ts us
  alone (childless {a = a} h) = record { front = name a ∷ []; splits = refl; derives = λ vs. childless h }
  alone (with_children {a = a} {k = k} {rs = rs} {us = us} h ds) =
      let x = children-alone ds in record {
        front = name a ∷ symbol open_square ∷ (x.front ++ symbol close_square ∷ []);
        splits = ap (λ ts. name a ∷ symbol open_square ∷ ts) (x.splits ∙ sym (append_assoc x.front (symbol close_square ∷ []) us));
        derives = λ vs.
            subst (λ ts. Representation (repr k rs) (name a ∷ symbol open_square ∷ ts) vs) (sym (append_assoc x.front (symbol close_square ∷ []) vs))
            (with_children h (x.derives (symbol close_square ∷ vs)));
      }

  children-alone : {rs : Reprs} {ts us : List Token} → Representations rs ts us → ChildrenAlone rs ts us
  children-alone (last_representation d) =
      let x = alone d in record { front = x.front; splits = x.splits; derives = λ vs. last_representation (x.derives vs) }
  children-alone (next_representation {r = r} {rs = rs} {us = us} {vs = vs} d ds) =
      let x = alone d in let y = children-alone ds in record {
        front = x.front ++ symbol comma ∷ y.front;
        splits = x.splits ∙ ap (λ ts. x.front ++ symbol comma ∷ ts) y.splits ∙ sym (append_assoc x.front (symbol comma ∷ y.front) vs);
        derives = λ ws.
            subst (λ ts. Representations (more_reprs r rs) ts ws) (sym (append_assoc x.front (symbol comma ∷ y.front) ws))
            (next_representation (x.derives (symbol comma ∷ (y.front ++ ws))) (y.derives ws));
      }

-- ---- runs inside a representation

-- The state behind tokens, and the tree there.
record Reached {S A : Type 0} (step : Token → S → Option S) (finish : S → Option A) (ts : List Token) (s : S) (a : A) : Type 0 where
  state : S
  reached : state_behind step ts s ≡ Some state
  whole : finish state ≡ Some a

reached-from : {S A : Type 0} (step : Token → S → Option S) (finish : S → Option A) (t : Token) (ts : List Token) (s : S) (a : A) (o : Option S) → step t s ≡ o → from_state (tree_of step finish ts) o ≡ Some a →
    ((q : S) → tree_of step finish ts q ≡ Some a → Reached step finish ts q a) → Reached step finish (t ∷ ts) s a
reached-from step finish t ts s a None e h f = cc
reached-from step finish t ts s a (Some q) e h f =
    let x = f q h in record { state = x.state; reached = ap (from_state (state_behind step ts)) e ∙ x.reached; whole = x.whole }

-- A run that answers a tree reaches a state that has it.
tree-reached : {S A : Type 0} (step : Token → S → Option S) (finish : S → Option A) (ts : List Token) (s : S) (a : A) → tree_of step finish ts s ≡ Some a → Reached step finish ts s a
tree-reached step finish [] s a h = record { state = s; reached = refl; whole = h }
tree-reached step finish (t ∷ ts) s a h = reached-from step finish t ts s a (step t s) refl h (λ q k. tree-reached step finish ts q a k)

tree-from : {S A : Type 0} (step : Token → S → Option S) (finish : S → Option A) (ts : List Token) (o : Option S) (q : S) → from_state (state_behind step ts) o ≡ Some q →
    ((s : S) → state_behind step ts s ≡ Some q → tree_of step finish ts s ≡ finish q) → from_state (tree_of step finish ts) o ≡ finish q
tree-from step finish ts None q h f = cc
tree-from step finish ts (Some s) q h f = f s h

-- A run answers what the state behind its tokens has.
reached-tree : {S A : Type 0} (step : Token → S → Option S) (finish : S → Option A) (ts : List Token) (s q : S) → state_behind step ts s ≡ Some q → tree_of step finish ts s ≡ finish q
reached-tree step finish [] s q h = ap finish (same_Some s q h)
reached-tree step finish (t ∷ ts) s q h = tree-from step finish ts (step t s) q h (λ r k. reached-tree step finish ts r q k)

-- ---- runs over a line

operator-stops : (o : Op2) (m : ReprMode) (fs : List ReprFrame) → repr_step (operator o) m fs ≡ None
operator-stops o kind_wanted fs = refl
operator-stops o (kind_read k) fs = refl
operator-stops o (repr_read r) fs = refl

further-from : (a : Text) (rs : List Repr) (ts ys : List Token) (o : Option ReprState) (q : ReprState) → from_state (state_behind step_representation ts) o ≡ Some q →
    ((s : ReprState) → state_behind step_representation ts s ≡ Some q → tree_of step_line finish_line (ts ++ ys) (tree_begun a rs s) ≡ tree_of step_line finish_line ys (tree_begun a rs q)) →
    from_state (tree_of step_line finish_line (ts ++ ys)) (further a rs o) ≡ tree_of step_line finish_line ys (tree_begun a rs q)
further-from a rs ts ys None q h f = cc
further-from a rs ts ys (Some s) q h f = f s h

-- Over the tokens of a representation the line's machine goes on as that of representations.
run-inside : (a : Text) (rs : List Repr) (ts ys : List Token) (s q : ReprState) → state_behind step_representation ts s ≡ Some q →
    tree_of step_line finish_line (ts ++ ys) (tree_begun a rs s) ≡ tree_of step_line finish_line ys (tree_begun a rs q)
run-inside a rs [] ys s q h = ap (λ r. tree_of step_line finish_line ys (tree_begun a rs r)) (same_Some s q h)
run-inside a rs (operator Op2.Plus ∷ ts) ys s q h =
    let k : None ≡ Some q = sym (ap (from_state (state_behind step_representation ts)) (operator-stops Op2.Plus s.mode s.frames)) ∙ h in cc
run-inside a rs (t ∷ ts) ys s q h = further-from a rs ts ys (step_representation t s) q h (λ r k. run-inside a rs ts ys r q k)

-- The run over choices that the rules derive.
choices-read : {ts : List Token} {rs : List Repr} → Choices rs ts → (a : Text) (before : List Repr) →
    tree_of step_line finish_line ts (tree_begun a before start_representation) ≡ Some (a, before ++ rs)
choices-read (last_choice {r = r} {ts = ts} d) a before =
    let x = tree-reached step_representation finish_representation ts start_representation r (representation-laws.reads ts r d) in
    ap (λ us. tree_of step_line finish_line us (tree_begun a before start_representation)) (sym (append-nil ts))
    ∙ run-inside a before ts [] start_representation x.state x.reached
    ∙ ap (with_last a before) x.whole
choices-read (next_choice {r = r} {rs = rs} {ts = ts} {us = us} d ds) a before =
    let y = alone d in
    let own : IsRepresentation r y.front = subst (λ vs. Representation r vs []) (append-nil y.front) (y.derives []) in
    let x = tree-reached step_representation finish_representation y.front start_representation r (representation-laws.reads y.front r own) in
    ap (λ vs. tree_of step_line finish_line vs (tree_begun a before start_representation)) y.splits
    ∙ run-inside a before y.front (operator Op2.Plus ∷ us) start_representation x.state x.reached
    ∙ ap (λ o. from_state (tree_of step_line finish_line us) (next_tree a before o)) x.whole
    ∙ choices-read ds a (before ++ r ∷ [])
    ∙ ap (λ qs. Some (a, qs)) (append_assoc before (r ∷ []) rs)

-- A line that the rules derive is read.
line-read : {a : Text} {rs : List Repr} {ts : List Token} → RepresentationLine a rs ts → tree_of step_line finish_line ts word_wanted ≡ Some (a, rs)
line-read (representation_line {a = a} ds) = choices-read ds a []

-- Each list of tokens is the line of at most one name with its representations.
pub one-line : (m n : Named) (ts : List Token) → IsRepresentationLine m ts → IsRepresentationLine n ts → m ≡ n
one-line m n ts d g = same_Some m n (sym (line-read d) ∙ line-read g)

-- ---- what is read

-- These are more representations for the name, and they are the last of these.
record Ends (a : Text) (before : List Repr) (ts : List Token) (n : Named) : Type 0 where
  more : List Repr
  derivation : Choices more ts
  is : n ≡ (a, before ++ more)

last-ends : (a : Text) (before : List Repr) (ts : List Token) (s : ReprState) (n : Named) (o : Option Repr) → state_behind step_representation ts start_representation ≡ Some s → finish_representation s ≡ o →
    with_last a before o ≡ Some n → Ends a before ts n
last-ends a before ts s n None r e h = cc
last-ends a before ts s n (Some q) r e h = record {
  more = q ∷ [];
  derivation = last_choice (representation-laws.derives ts q (reached-tree step_representation finish_representation ts start_representation s r ∙ e));
  is = sym (same_Some (a, before ++ q ∷ []) n h);
}

plus-ends : (a : Text) (before : List Repr) (xs ts : List Token) (s : ReprState) (n : Named) (o : Option Repr) → state_behind step_representation xs start_representation ≡ Some s → finish_representation s ≡ o →
    from_state (tree_of step_line finish_line ts) (next_tree a before o) ≡ Some n →
    ((q : Repr) → tree_of step_line finish_line ts (tree_begun a (before ++ q ∷ []) start_representation) ≡ Some n → Ends a (before ++ q ∷ []) ts n) →
    Ends a before (xs ++ operator Op2.Plus ∷ ts) n
plus-ends a before xs ts s n None r e h f = cc
plus-ends a before xs ts s n (Some q) r e h f =
    let x = f q h in
    let own = representation-laws.derives xs q (reached-tree step_representation finish_representation xs start_representation s r ∙ e) in record {
      more = q ∷ x.more;
      derivation = next_choice (more-behind own (operator Op2.Plus ∷ ts)) x.derivation;
      is = x.is ∙ ap (λ qs. (a, qs)) (append_assoc before (q ∷ []) x.more);
    }

inside-ends : (a : Text) (before : List Repr) (t : Token) (xs ts : List Token) (s : ReprState) (n : Named) (o : Option ReprState) → state_behind step_representation xs start_representation ≡ Some s →
    step_representation t s ≡ o → from_state (tree_of step_line finish_line ts) (further a before o) ≡ Some n →
    ((q : ReprState) → state_behind step_representation (xs ++ t ∷ []) start_representation ≡ Some q → tree_of step_line finish_line ts (tree_begun a before q) ≡ Some n → Ends a before ((xs ++ t ∷ []) ++ ts) n) →
    Ends a before (xs ++ t ∷ ts) n
inside-ends a before t xs ts s n None r e h f = cc
inside-ends a before t xs ts s n (Some q) r e h f =
    subst (λ us. Ends a before us n) (append_assoc xs (t ∷ []) ts)
    (f q (behind-more step_representation xs (t ∷ []) start_representation s r ∙ ap (from_state (state_behind step_representation [])) e) h)

-- From a state inside a representation.
tree-ends : (a : Text) (before : List Repr) (xs ts : List Token) (s : ReprState) (n : Named) → state_behind step_representation xs start_representation ≡ Some s →
    tree_of step_line finish_line ts (tree_begun a before s) ≡ Some n → Ends a before (xs ++ ts) n
tree-ends a before xs [] s n r h =
    subst (λ us. Ends a before us n) (sym (append-nil xs)) (last-ends a before xs s n (finish_representation s) r refl h)
tree-ends a before xs (operator Op2.Plus ∷ ts) s n r h =
    plus-ends a before xs ts s n (finish_representation s) r refl h (λ q k. tree-ends a (before ++ q ∷ []) [] ts start_representation n refl k)
tree-ends a before xs (t ∷ ts) s n r h =
    inside-ends a before t xs ts s n (step_representation t s) r refl h (λ q g k. tree-ends a before (xs ++ t ∷ []) ts q n g k)

derived-line : {a : Text} {ts : List Token} (n : Named) → Ends a [] ts n → IsRepresentationLine n (name (codes "repr") ∷ name a ∷ ts)
derived-line {a = a} {ts = ts} n x =
    subst (λ m. IsRepresentationLine m (name (codes "repr") ∷ name a ∷ ts)) (sym x.is) (representation_line x.derivation)

-- Behind the word.
name-ends : (ts : List Token) (n : Named) → tree_of step_line finish_line ts name_wanted ≡ Some n → IsRepresentationLine n (name (codes "repr") ∷ ts)
name-ends (name a ∷ ts) n h = derived-line n (tree-ends a [] [] ts start_representation n refl h)
name-ends [] n h = cc
name-ends (t ∷ ts) n h = cc

word-ends : (w : Text) (ts : List Token) (n : Named) (b : Bool) → bytes_eq w (codes "repr") ≡ b → from_state (tree_of step_line finish_line ts) (if b then Some name_wanted else None) ≡ Some n →
    IsRepresentationLine n (name w ∷ ts)
word-ends w ts n true e h =
    subst (λ v. IsRepresentationLine n (name v ∷ ts)) (sym ((bytes_eq-Decides w (codes "repr")).0 e)) (name-ends ts n h)
word-ends w ts n false e h = cc

-- A line that is read is derived.
line-derived : (ts : List Token) (n : Named) → tree_of step_line finish_line ts word_wanted ≡ Some n → IsRepresentationLine n ts
line-derived (name w ∷ ts) n h = word-ends w ts n (bytes_eq w (codes "repr")) refl h
line-derived [] n h = cc
line-derived (t ∷ ts) n h = cc

-- ---- where the machine stops

stopped-from : {S A : Type 0} (step : Token → S → Option S) (finish : S → Option A) (ts us : List Token) (o : Option S) → from_state (state_behind step ts) o ≡ None →
    ((s : S) → state_behind step ts s ≡ None → tree_of step finish (ts ++ us) s ≡ None) → from_state (tree_of step finish (ts ++ us)) o ≡ None
stopped-from step finish ts us None h f = refl
stopped-from step finish ts us (Some s) h f = f s h

-- Where a machine has stopped no tree comes.
stopped-tree : {S A : Type 0} (step : Token → S → Option S) (finish : S → Option A) (ts us : List Token) (s : S) → state_behind step ts s ≡ None → tree_of step finish (ts ++ us) s ≡ None
stopped-tree step finish [] us s h = cc
stopped-tree step finish (t ∷ ts) us s h = stopped-from step finish ts us (step t s) h (λ q k. stopped-tree step finish ts us q k)

-- No line begins with tokens at which the machine has stopped.
no-line : (ts us : List Token) (n : Named) → state_behind step_line ts word_wanted ≡ None → IsRepresentationLine n (ts ++ us) → ⊥
no-line ts us n h d = let k : None ≡ Some n = sym (stopped-tree step_line finish_line ts us word_wanted h) ∙ line-read d in cc

word-stops : (w : Word) (m : ReprMode) (fs : List ReprFrame) → repr_step (word w) m fs ≡ None
word-stops w kind_wanted fs = refl
word-stops w (kind_read k) fs = refl
word-stops w (repr_read r) fs = refl

-- The machine stops at each word.
line-stops : (w : Word) (s : LineState) → step_line (word w) s ≡ None
line-stops w word_wanted = refl
line-stops w name_wanted = refl
line-stops w (tree_begun a rs s) = ap (further a rs) (word-stops w s.mode s.frames)

pub line-laws : IsMachineFor step_line finish_line word_wanted IsRepresentationLine
line-laws = record {
  derives = λ ts n h. line-derived ts n h;
  reads = λ ts n d. line-read d;
  stops = λ ts us n h d. no-line ts us n h d;
  whole = λ ts us w s b h. absurd (never-behind step_line (word w) (line-stops w) ts us word_wanted s h);
}
