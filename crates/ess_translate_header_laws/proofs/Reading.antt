-- The lines of a header, one after the other.
use Rattle.std.proofs.Common.{◌≡◌, refl, sym, ap, ◌∙◌, subst, List, [], ◌∷◌, ◌++◌, append_assoc, append-nil, codes}
use Rattle.ess_semantics.specs.Values.{Text}
use Rattle.ess_semantics.specs.Names.{Names}
use Rattle.ess_semantics.specs.Trees.{Repr, Stm}
use Rattle.ess_grammar.specs.HeaderTexts.{RepresentationLines, end_line, next_representation_line, StatementLines, no_more_statements}
use Rattle.ess_grammar.specs.HeaderTexts.{next_statement_line}
use Rattle.ess_translate_header_laws.specs.HeadLines.{Wanted, statements_wanted, reprs_wanted, LinesFrom, IsStatementLine, IsReprsLine}
use Rattle.ess_translate_header_laws.specs.HeadLines.{DerivesStatement, DerivesReprs, IsNoStatementLine, IsNoReprsLine}
use Rattle.ess_translate_header_laws.specs.Headers.{AreWithinLimits}
use Rattle.ess_translate_header_laws.specs.Reading.{AreLinesOf, AreNoLines}
use Rattle.ess_translate_header_laws.proofs.HeadLines.{one-statement, one-named, no-statement, last-no-statement, last-no-reprs}

-- Lines of which the first belong to a header, from a place on.
pub record Fits (w : Wanted) (ss : List Stm) (cs : Names (List Repr)) (lines : List Text) : Type 0 where
  own : List Text
  others : List Text
  all : lines ≡ own ++ others
  read : LinesFrom w ss cs own
  limits : AreWithinLimits own

-- What was read of the lines before these: what the rest is read as comes behind it, and nothing else fits.
pub record IsRead (w : Wanted) (ss : List Stm) (cs : Names (List Repr)) (left all : List Text) : Type 0 where
  pub sound : (rs : List Stm) (ds : Names (List Repr)) → Fits w rs ds left → AreLinesOf (ss ++ rs) (cs ++ ds) all
  pub complete : (rs : List Stm) (ds : Names (List Repr)) → AreLinesOf rs ds all →
      (ps : List Stm) × (qs : Names (List Repr)) × (rs ≡ ss ++ ps) × (ds ≡ cs ++ qs) × Fits w ps qs left

-- Before the first line.
pub nothing_read : (all : List Text) → IsRead statements_wanted [] [] all all
nothing_read all = record {
  sound = λ rs ds f. record { own = f.own; others = f.others; all = f.all; read = f.read; limits = f.limits };
  complete = λ rs ds f. (rs, ds, refl, refl, record { own = f.own; others = f.others; all = f.all; read = f.read; limits = f.limits });
}

-- ---- the first line of a header's lines

-- The two first lines are one, and so are those behind them.
pub first-line : (l m : Text) (left own others : List Text) → l ∷ left ≡ (m ∷ own) ++ others → (m ≡ l) × (left ≡ own ++ others)
first-line l m left own others h = (cc, cc)

no-line : (l : Text) (left others : List Text) → l ∷ left ≡ [] ++ others → others ≡ l ∷ left
no-line l left others h = sym h

-- ---- a statement

with-statement : (l : Text) (s : Stm) (rs : List Stm) (ds : Names (List Repr)) (left : List Text) → IsStatementLine l s →
    Fits statements_wanted rs ds left → Fits statements_wanted (s ∷ rs) ds (l ∷ left)
with-statement l s rs ds left d f =
    record {
      own = l ∷ f.own;
      others = f.others;
      all = ap (λ ls. l ∷ ls) f.all;
      read = next_statement_line d.0 f.read;
      limits = (d.1, f.limits);
    }

-- What fits behind a statement.
record BehindStatement (s : Stm) (ps : List Stm) (qs : Names (List Repr)) (left : List Text) : Type 0 where
  more : List Stm
  is : ps ≡ s ∷ more
  fits : Fits statements_wanted more qs left

-- Where lines of representations begin, no statement does.
pub reprs-behind : (l : Text) (s : Stm) (qs : Names (List Repr)) (left own others : List Text) → DerivesStatement l s →
    l ∷ left ≡ own ++ others → RepresentationLines qs own → ⊥
reprs-behind l s qs left own others d e end_line = last-no-statement l s (sym (first-line l (codes "end-header") left [] others e).0) d
reprs-behind l s qs left own others d e (next_representation_line {a = a} {rs = rs} {l = m} {ls = ls} r more) =
    no-statement l a s rs (subst (λ k. DerivesReprs k a rs) (first-line l m left ls others e).0 r) d

statement-behind : (l : Text) (s : Stm) (ps : List Stm) (qs : Names (List Repr)) (left own others : List Text) → DerivesStatement l s →
    l ∷ left ≡ own ++ others → StatementLines ps qs own → AreWithinLimits own → BehindStatement s ps qs left
statement-behind l s ps qs left own others d e (no_more_statements r) w = absurd (reprs-behind l s qs left own others d e r)
statement-behind l s ps qs left own others d e (next_statement_line {s = t} {ss = more} {l = m} {ls = ls} r rest) w =
    let x = first-line l m left ls others e in
    let same : t ≡ s = one-statement l t s (subst (λ k. DerivesStatement k t) x.0 r) d in record {
      more = more;
      is = ap (λ q. q ∷ more) same;
      fits = record { own = ls; others = others; all = x.1; read = rest; limits = w.1 };
    }

-- A statement more.
pub statement_read : (ss : List Stm) (cs : Names (List Repr)) (l : Text) (left all : List Text) (s : Stm) →
    IsRead statements_wanted ss cs (l ∷ left) all → IsStatementLine l s →
    IsRead statements_wanted (ss ++ s ∷ []) cs left all
statement_read ss cs l left all s h d = record {
  sound = λ rs ds f. subst (λ qs. AreLinesOf qs (cs ++ ds) all) (sym (append_assoc ss (s ∷ []) rs))
      (h.sound (s ∷ rs) ds (with-statement l s rs ds left d f));
  complete = λ rs ds f.
      let x = h.complete rs ds f in
      let b = statement-behind l s x.0 x.1 left x.4.own x.4.others d.0 x.4.all x.4.read x.4.limits in
      (b.more, x.1, x.2 ∙ ap (λ ps. ss ++ ps) b.is ∙ sym (append_assoc ss (s ∷ []) b.more), x.3, b.fits);
}

-- No statement stands where representations are wanted.
pub late_statement : (ss : List Stm) (cs : Names (List Repr)) (l : Text) (left all : List Text) (s : Stm) →
    IsRead reprs_wanted ss cs (l ∷ left) all → IsStatementLine l s → AreNoLines all
late_statement ss cs l left all s h d rs ds f =
    let x = h.complete rs ds f in reprs-behind l s x.1 left x.4.own x.4.others d.0 x.4.all x.4.read.1

-- ---- representations

with-reprs : (w : Wanted) (l a : Text) (rs : List Repr) (ss : List Stm) (ds : Names (List Repr)) (left : List Text) → IsReprsLine l a rs →
    Fits reprs_wanted ss ds left → Fits w ss ((a, rs) ∷ ds) (l ∷ left)
with-reprs statements_wanted l a rs ss ds left d f = record {
  own = l ∷ f.own;
  others = f.others;
  all = ap (λ ls. l ∷ ls) f.all;
  read = subst (λ ps. StatementLines ps ((a, rs) ∷ ds) (l ∷ f.own)) (sym f.read.0)
      (no_more_statements (next_representation_line d.0 f.read.1));
  limits = (d.1, f.limits);
}
with-reprs reprs_wanted l a rs ss ds left d f =
    record {
      own = l ∷ f.own;
      others = f.others;
      all = ap (λ ls. l ∷ ls) f.all;
      read = (f.read.0, next_representation_line d.0 f.read.1);
      limits = (d.1, f.limits);
    }

-- What fits behind the representations of a name.
record BehindReprs (a : Text) (rs : List Repr) (ps : List Stm) (qs : Names (List Repr)) (left : List Text) : Type 0 where
  more : Names (List Repr)
  is : qs ≡ (a, rs) ∷ more
  fits : Fits reprs_wanted ps more left

named-behind : (l a : Text) (rs : List Repr) (ps : List Stm) (qs : Names (List Repr)) (left own others : List Text) → ps ≡ [] →
    DerivesReprs l a rs → l ∷ left ≡ own ++ others → RepresentationLines qs own → AreWithinLimits own → BehindReprs a rs ps qs left
named-behind l a rs ps qs left own others n d e end_line w =
    absurd (last-no-reprs l a rs (sym (first-line l (codes "end-header") left [] others e).0) d)
named-behind l a rs ps qs left own others n d e (next_representation_line {a = b} {rs = bs} {cs = more} {l = m} {ls = ls} r rest) w =
    let x = first-line l m left ls others e in
    let same : ◌≡◌ {A = Text × List Repr} (b, bs) (a, rs) = one-named l b a bs rs (subst (λ k. DerivesReprs k b bs) x.0 r) d in record {
      more = more;
      is = ap (λ q. q ∷ more) same;
      fits = record { own = ls; others = others; all = x.1; read = (n, rest); limits = w.1 };
    }

reprs-from : (w : Wanted) (l a : Text) (rs : List Repr) (ps : List Stm) (qs : Names (List Repr)) (left own others : List Text) →
    DerivesReprs l a rs → l ∷ left ≡ own ++ others → LinesFrom w ps qs own → AreWithinLimits own → BehindReprs a rs ps qs left
reprs-from statements_wanted l a rs ps qs left own others d e (no_more_statements r) h =
    named-behind l a rs [] qs left own others refl d e r h
reprs-from statements_wanted l a rs ps qs left own others d e (next_statement_line {s = t} {l = m} {ls = ls} r rest) h =
    absurd (no-statement l a t rs d (subst (λ k. DerivesStatement k t) (first-line l m left ls others e).0 r))
reprs-from reprs_wanted l a rs ps qs left own others d e r h = named-behind l a rs ps qs left own others r.0 d e r.1 h

-- The representations of a name more.
pub reprs_read : (w : Wanted) (ss : List Stm) (cs : Names (List Repr)) (l : Text) (left all : List Text) (a : Text) (rs : List Repr) →
    IsRead w ss cs (l ∷ left) all → IsReprsLine l a rs →
    IsRead reprs_wanted ss (cs ++ (a, rs) ∷ []) left all
reprs_read w ss cs l left all a rs h d = record {
  sound = λ ps ds f. subst (λ qs. AreLinesOf (ss ++ ps) qs all) (sym (append_assoc cs ((a, rs) ∷ []) ds))
      (h.sound ps ((a, rs) ∷ ds) (with-reprs w l a rs ps ds left d f));
  complete = λ ps ds f.
      let x = h.complete ps ds f in
      let b = reprs-from w l a rs x.0 x.1 left x.4.own x.4.others d.0 x.4.all x.4.read x.4.limits in
      (x.0, b.more, x.2, x.3 ∙ ap (λ qs. cs ++ qs) b.is ∙ sym (append_assoc cs ((a, rs) ∷ []) b.more), b.fits);
}

-- ---- the end

end-fits : (w : Wanted) (l : Text) (left : List Text) → l ≡ codes "end-header" → Fits w [] [] (l ∷ left)
end-fits statements_wanted l left e =
    record {
      own = codes "end-header" ∷ [];
      others = left;
      all = ap (λ k. k ∷ left) e;
      read = no_more_statements end_line;
      limits = ((refl, refl), tt);
    }
end-fits reprs_wanted l left e =
    record {
      own = codes "end-header" ∷ [];
      others = left;
      all = ap (λ k. k ∷ left) e;
      read = (refl, end_line);
      limits = ((refl, refl), tt);
    }

-- The header ends.
pub end_read : (w : Wanted) (ss : List Stm) (cs : Names (List Repr)) (l : Text) (left all : List Text) → IsRead w ss cs (l ∷ left) all →
    l ≡ codes "end-header" → AreLinesOf ss cs all
end_read w ss cs l left all h e =
    subst (λ ps. AreLinesOf ps cs all) (append-nil ss)
    (subst (λ qs. AreLinesOf (ss ++ []) qs all) (append-nil cs) (h.sound [] [] (end-fits w l left e)))

-- ---- other lines

reprs-other : (l : Text) (qs : Names (List Repr)) (left own others : List Text) → IsNoReprsLine l → (l ≡ codes "end-header" → ⊥) →
    l ∷ left ≡ own ++ others → RepresentationLines qs own → AreWithinLimits own → ⊥
reprs-other l qs left own others n m e end_line w = m (sym (first-line l (codes "end-header") left [] others e).0)
reprs-other l qs left own others n m e (next_representation_line {a = a} {rs = rs} {l = k} {ls = ls} r more) w =
    n a rs (subst (λ k. IsReprsLine k a rs) (first-line l k left ls others e).0 (r, w.0))

from-other : (w : Wanted) (l : Text) (ps : List Stm) (qs : Names (List Repr)) (left own others : List Text) → IsNoStatementLine l →
    IsNoReprsLine l → (l ≡ codes "end-header" → ⊥) → l ∷ left ≡ own ++ others →
    LinesFrom w ps qs own → AreWithinLimits own → ⊥
from-other statements_wanted l ps qs left own others s n m e (no_more_statements r) h = reprs-other l qs left own others n m e r h
from-other statements_wanted l ps qs left own others s n m e (next_statement_line {s = t} {l = k} {ls = ls} r rest) h =
    s t (subst (λ k. IsStatementLine k t) (first-line l k left ls others e).0 (r, h.0))
from-other reprs_wanted l ps qs left own others s n m e r h = reprs-other l qs left own others n m e r.1 h

-- A line that is none of a header.
pub other_read : (w : Wanted) (ss : List Stm) (cs : Names (List Repr)) (l : Text) (left all : List Text) → IsRead w ss cs (l ∷ left) all →
    IsNoStatementLine l → IsNoReprsLine l → (l ≡ codes "end-header" → ⊥) → AreNoLines all
other_read w ss cs l left all h s n m rs ds f =
    let x = h.complete rs ds f in from-other w l x.0 x.1 left x.4.own x.4.others s n m x.4.all x.4.read x.4.limits

reprs-empty : (qs : Names (List Repr)) (own others : List Text) → [] ≡ own ++ others → RepresentationLines qs own → ⊥
reprs-empty qs own others e end_line = cc
reprs-empty qs own others e (next_representation_line r more) = cc

from-empty : (w : Wanted) (ps : List Stm) (qs : Names (List Repr)) (own others : List Text) → [] ≡ own ++ others → LinesFrom w ps qs own → ⊥
from-empty statements_wanted ps qs own others e (no_more_statements r) = reprs-empty qs own others e r
from-empty statements_wanted ps qs own others e (next_statement_line r rest) = cc
from-empty reprs_wanted ps qs own others e r = reprs-empty qs own others e r.1

-- No line is left, and the header hasn't ended.
pub none_left : (w : Wanted) (ss : List Stm) (cs : Names (List Repr)) (all : List Text) → IsRead w ss cs [] all → AreNoLines all
none_left w ss cs all h rs ds f = let x = h.complete rs ds f in from-empty w x.0 x.1 x.4.own x.4.others x.4.all x.4.read
