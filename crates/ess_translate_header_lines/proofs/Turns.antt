-- The turns over the lines of a header.
use Rattle.std.proofs.Common.{◌≡◌, sym, ap, ◌∙◌, subst, ◌<◌, ◌≤◌, ℕ, suc, ◌+◌, List, [], ◌∷◌, ◌++◌, length, drop, map, arith}
use Rattle.std.proofs.Math.ListN.{get_or, drop_of_length-le}
use Rattle.std.proofs.Math.Seq.{drop-cons}
use Rattle.std.proofs.lemmas.List.{map-append}
use Rattle.ess_semantics.specs.Values.{Text}
use Rattle.ess_semantics.specs.Names.{Names}
use Rattle.ess_semantics.specs.Trees as trees
use Rattle.ess_core.specs.TreeViews.{pure_repr}
use Rattle.ess_core.specs.StatementViews.{pure_stm}
use Rattle.ess_core.specs.declared.statements.Stm.{Stm}
use Rattle.ess_parse.specs.declared.representations.named.NamedReprs.{NamedReprs}
use Rattle.ess_parse.specs.NamedReprViews.{pure_named_reprs}
use Rattle.ess_translate_header_laws.specs.HeadLines as lines
use Rattle.ess_translate_header_laws.specs.HeadLines.{IsHeadLine, statements_wanted, reprs_wanted}
use Rattle.ess_translate_header_laws.specs.Reading.{AreLinesOf, AreNoLines}
use Rattle.ess_translate_header_laws.proofs.Reading.{IsRead, nothing_read, statement_read, late_statement, reprs_read, end_read, other_read, none_left}
use Rattle.ess_translate_header_lines.specs.declared.lines.HeadLine.{HeadLine}
use Rattle.ess_translate_header_lines.specs.declared.reading.Wanted.{Wanted}
use Rattle.ess_translate_header_lines.specs.Views.{pure_line, pure_wanted}

lines-left : (all : List Text) (i : ℕ) (l : Text) → l ≡ get_or all i l → i < length all → drop i all ≡ l ∷ drop (i + 1) all
lines-left all i l h k =
    let next : suc i ≡ i + 1 = omega arith in
    drop-cons all i l k ∙ ap (λ t. t ∷ drop (suc i) all) (sym h) ∙ ap (λ n. l ∷ drop n all) next

at-line : (w : lines.Wanted) (ss : List trees.Stm) (cs : Names (List trees.Repr)) (all : List Text) (i : ℕ) (l : Text) →
    l ≡ get_or all i l →
    i < length all → IsRead w ss cs (drop i all) all → IsRead w ss cs (l ∷ drop (i + 1) all) all
at-line w ss cs all i l h k r = subst (λ ls. IsRead w ss cs ls all) (lines-left all i l h k) r

-- Before the first line.
pub lines_none : (ss : List Stm) (rs : List NamedReprs) (all : List Text) → ss ≡ [] → rs ≡ [] →
    IsRead statements_wanted (map pure_stm ss) (map pure_named_reprs rs) all all
lines_none ss rs all e f =
    subst (λ s. IsRead statements_wanted (map pure_stm s) (map pure_named_reprs rs) all all) (sym e)
    (subst (λ r. IsRead statements_wanted [] (map pure_named_reprs r) all all) (sym f) (nothing_read all))

-- Behind these statements and representations stands this line, the i-th of all.
pub record AtLine (w : Wanted) (ss : List Stm) (rs : List NamedReprs) (all : List Text) (i : ℕ) (l : Text) (h : HeadLine) : Type 0 where
  pub item : l ≡ get_or all i l
  pub within : i < length all
  pub read : IsRead (pure_wanted w) (map pure_stm ss) (map pure_named_reprs rs) (drop i all) all
  pub line : IsHeadLine l (pure_line h)

stands : {w : Wanted} {ss : List Stm} {rs : List NamedReprs} {all : List Text} {i : ℕ} {l : Text} {h : HeadLine} →
    AtLine w ss rs all i l h →
    IsRead (pure_wanted w) (map pure_stm ss) (map pure_named_reprs rs) (l ∷ drop (i + 1) all) all
stands {w = w} {ss = ss} {rs = rs} {all = all} {i = i} {l = l} t =
    at-line (pure_wanted w) (map pure_stm ss) (map pure_named_reprs rs) all i l t.item t.within t.read

line-is : {w : Wanted} {ss : List Stm} {rs : List NamedReprs} {all : List Text} {i : ℕ} {l : Text} {h : HeadLine} (k : HeadLine) →
    AtLine w ss rs all i l h →
    h ≡ k → IsHeadLine l (pure_line k)
line-is {l = l} k t e = subst (λ x. IsHeadLine l (pure_line x)) e t.line

as-wanted : {w : Wanted} (ss : List Stm) (rs : List NamedReprs) (all left : List Text) (v : Wanted) → w ≡ v →
    IsRead (pure_wanted w) (map pure_stm ss) (map pure_named_reprs rs) left all →
    IsRead (pure_wanted v) (map pure_stm ss) (map pure_named_reprs rs) left all
as-wanted ss rs all left v e r =
    subst (λ x. IsRead (pure_wanted x) (map pure_stm ss) (map pure_named_reprs rs) left all) e r

-- A statement where representations are wanted.
pub lines_late : (w : Wanted) (ss : List Stm) (rs : List NamedReprs) (all : List Text) (i : ℕ) (l : Text) (h : HeadLine) (s : Stm) →
    AtLine w ss rs all i l h → w ≡ Wanted.Representations → h ≡ HeadLine.Statement s → AreNoLines all
lines_late w ss rs all i l h s t v e =
    late_statement (map pure_stm ss) (map pure_named_reprs rs) l (drop (i + 1) all) all (pure_stm s)
    (as-wanted ss rs all (l ∷ drop (i + 1) all) Wanted.Representations v (stands t))
    (line-is (HeadLine.Statement s) t e)

-- The end.
pub lines_end : (w : Wanted) (ss : List Stm) (rs : List NamedReprs) (all : List Text) (i : ℕ) (l : Text) (h : HeadLine) →
    AtLine w ss rs all i l h → h ≡ HeadLine.End → AreLinesOf (map pure_stm ss) (map pure_named_reprs rs) all
lines_end w ss rs all i l h t e =
    end_read (pure_wanted w) (map pure_stm ss) (map pure_named_reprs rs) l (drop (i + 1) all) all (stands t) (line-is HeadLine.End t e)

-- Another line.
pub lines_other : (w : Wanted) (ss : List Stm) (rs : List NamedReprs) (all : List Text) (i : ℕ) (l : Text) (h : HeadLine) →
    AtLine w ss rs all i l h → h ≡ HeadLine.Other → AreNoLines all
lines_other w ss rs all i l h t e =
    let n = line-is HeadLine.Other t e in
    other_read (pure_wanted w) (map pure_stm ss) (map pure_named_reprs rs) l (drop (i + 1) all) all (stands t) n.0 n.1 n.2

-- A statement more.
pub lines_statement : (w v : Wanted) (ss zs : List Stm) (rs qs : List NamedReprs) (all : List Text) (i : ℕ) (l : Text) (h : HeadLine)
    (s : Stm) →
    AtLine w ss rs all i l h → w ≡ Wanted.Statements → h ≡ HeadLine.Statement s → v ≡ w → zs ≡ ss ++ s ∷ [] → qs ≡ rs →
    IsRead (pure_wanted v) (map pure_stm zs) (map pure_named_reprs qs) (drop (i + 1) all) all
lines_statement w v ss zs rs qs all i l h s t k e f g j =
    let r = statement_read (map pure_stm ss) (map pure_named_reprs rs) l (drop (i + 1) all) all (pure_stm s)
    (as-wanted ss rs all (l ∷ drop (i + 1) all) Wanted.Statements k (stands t))
    (line-is (HeadLine.Statement s) t e) in
    subst (λ x. IsRead (pure_wanted x) (map pure_stm zs) (map pure_named_reprs qs) (drop (i + 1) all) all) (sym (f ∙ k))
    (subst (λ x. IsRead statements_wanted (map pure_stm zs) (map pure_named_reprs x) (drop (i + 1) all) all) (sym j)
    (subst (λ x. IsRead statements_wanted x (map pure_named_reprs rs) (drop (i + 1) all) all)
    (sym (ap (map pure_stm) g ∙ map-append pure_stm ss (s ∷ []))) r))

-- The representations of a name more.
pub lines_reprs : (w v : Wanted) (ss zs : List Stm) (rs qs : List NamedReprs) (all : List Text) (i : ℕ) (l : Text) (h : HeadLine)
    (n : NamedReprs) →
    AtLine w ss rs all i l h → h ≡ HeadLine.Representations n → v ≡ Wanted.Representations → zs ≡ ss → qs ≡ rs ++ n ∷ [] →
    IsRead (pure_wanted v) (map pure_stm zs) (map pure_named_reprs qs) (drop (i + 1) all) all
lines_reprs w v ss zs rs qs all i l h n t e f g j =
    let r = reprs_read (pure_wanted w) (map pure_stm ss) (map pure_named_reprs rs) l (drop (i + 1) all) all n.name (map pure_repr n.trees)
    (stands t)
    (line-is (HeadLine.Representations n) t e) in
    subst (λ x. IsRead (pure_wanted x) (map pure_stm zs) (map pure_named_reprs qs) (drop (i + 1) all) all) (sym f)
    (subst (λ x. IsRead reprs_wanted (map pure_stm x) (map pure_named_reprs qs) (drop (i + 1) all) all) (sym g)
    (subst (λ x. IsRead reprs_wanted (map pure_stm ss) x (drop (i + 1) all) all)
    (sym (ap (map pure_named_reprs) j ∙ map-append pure_named_reprs rs (n ∷ []))) r))

-- Behind the last line.
pub lines_all : (w : Wanted) (ss : List Stm) (rs : List NamedReprs) (all : List Text) (i : ℕ) → length all ≤ i →
    IsRead (pure_wanted w) (map pure_stm ss) (map pure_named_reprs rs) (drop i all) all → AreNoLines all
lines_all w ss rs all i h r =
    none_left (pure_wanted w) (map pure_stm ss) (map pure_named_reprs rs) all
    (subst (λ ls. IsRead (pure_wanted w) (map pure_stm ss) (map pure_named_reprs rs) ls all) (drop_of_length-le all h) r)
