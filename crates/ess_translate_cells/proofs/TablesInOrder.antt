-- Declared tables beside those of a representation, one after the other.
use Rattle.std.proofs.Common.{◌≡◌, refl, sym, ap, ◌∙◌, subst, ℕ, ◌+◌, ◌<◌, ◌≤◌, ℤ, Bool, true, false, List, [], ◌∷◌, ◌++◌, map, length, get_or, drop, Option, append_assoc}
use Rattle.std.proofs.lemmas.List.{at_drop_more, at_drop_all}
use denote.Bor.{Bor}
use Rattle.ess_semantics.specs.Domains.{Domain}
use Rattle.ess_semantics.specs.Cells.{Axes}
use Rattle.ess_semantics.specs.Tables.{is_cell}
use Rattle.ess_semantics.specs.Trees as pure
use Rattle.ess_semantics.specs.Plans.{from_one}
use Rattle.ess_semantics.specs.Declarations.{Declaration, declarations, axes_of}
use Rattle.eprime_eval.specs.declared.members.Closed.{Closed}
use Rattle.eprime_eval.specs.ClosedDomains.{pure_closed as pure_cells}
use Rattle.eprime_verdicts.specs.ClosedDecls.{are_over}
use Rattle.ess_translate_members_laws.specs.CellForms.{plain}
use Rattle.ess_translate_members_laws.specs.LayerCells.{cells_of, tables_of}
use Rattle.ess_translate_members_laws.proofs.LayerCells.{tables_of-all}
use Rattle.ess_translate_cells.specs.declared.closing.ClosedTable.{ClosedTable}
use Rattle.ess_translate_cells.specs.ClosedTables.{Decides, SameTable, AreTables, IsBehind, Behind}

-- ---- one table

abbrev table : List (List ℤ) → Closed → Declaration
table as' c = record { axes = as'; cell = pure_cells c }

pub other_axes : (t : ClosedTable) (as' : List (List ℤ)) (c : Closed) (b : Bool) → b ≡ are_over t.axes as' → b ≡ false →
    Decides false (SameTable t (table as' c))
other_axes t as' c b e f = record { yes = λ x. absurd (no x); no = λ x s. clash (sym f ∙ e ∙ s.axes) }
  where
    no : false ≡ true → ⊥
    no x = cc

    clash : false ≡ true → ⊥
    clash x = cc

pub cells_tell : (t : ClosedTable) (as' : List (List ℤ)) (c : Closed) (a b : Bool) → a ≡ are_over t.axes as' → a ≡ true →
    Decides b ((n : ℤ) → is_cell (pure_cells t.cell) n ≡ is_cell (pure_cells c) n) → Decides b (SameTable t (table as' c))
cells_tell t as' c a b e f d = record { yes = λ x. record { axes = sym e ∙ f; cell = d.yes x }; no = λ x s. d.no x s.cell }

pub one_behind : (rest more : List ClosedTable) (t : ClosedTable) (as' : List (List ℤ)) (c : Closed) → rest ≡ t ∷ more →
    Decides true (SameTable t (table as' c)) → IsBehind (table as' c ∷ []) rest more
one_behind rest more t as' c e d = record {
  on = λ xs h. subst (λ l. AreTables l (table as' c ∷ xs)) (sym e) (d.yes refl, h);
  back = λ xs h. (subst (λ l. AreTables l (table as' c ∷ xs)) e h).1;
}

pub one_other : (rest more : List ClosedTable) (t : ClosedTable) (as' : List (List ℤ)) (c : Closed) → rest ≡ t ∷ more →
    Decides false (SameTable t (table as' c)) → (xs : List Declaration) → AreTables rest ((table as' c ∷ []) ++ xs) → ⊥
one_other rest more t as' c e d xs h = d.no refl (subst (λ l. AreTables l (table as' c ∷ xs)) e h).0

pub none_first : (rest : List ClosedTable) (as' : List (List ℤ)) (c : Closed) → rest ≡ [] →
    (xs : List Declaration) → AreTables rest ((table as' c ∷ []) ++ xs) → ⊥
none_first rest as' c e xs h = subst (λ l. AreTables l (table as' c ∷ xs)) e h

pub ruleset first_table = (one_behind, one_other, none_first)

-- ---- several tables

-- Nothing comes first.
pub behind-none : (rest : List ClosedTable) → IsBehind [] rest rest
behind-none rest = record { on = λ xs h. h; back = λ xs h. h }

-- Some, and some behind them.
pub behind-both : (ds es : List Declaration) (rest mid more : List ClosedTable) → IsBehind ds rest mid → IsBehind es mid more →
    IsBehind (ds ++ es) rest more
behind-both ds es rest mid more p q = record {
  on = λ xs h. subst (AreTables rest) (sym (append_assoc ds es xs)) (p.on (es ++ xs) (q.on xs h));
  back = λ xs h. q.back xs (p.back (es ++ xs) (subst (AreTables rest) (append_assoc ds es xs) h));
}

-- Some, but not those behind them.
pub behind-not : (ds es : List Declaration) (rest mid : List ClosedTable) → IsBehind ds rest mid →
    ((xs : List Declaration) → AreTables mid (es ++ xs) → ⊥) → (xs : List Declaration) → AreTables rest ((ds ++ es) ++ xs) → ⊥
behind-not ds es rest mid p q xs h = q xs (p.back (es ++ xs) (subst (AreTables rest) (append_assoc ds es xs) h))

-- The tables over these axes with these cells.
abbrev pub tables : List Axes → List Closed → List Declaration
tables ass cs = tables_of ass (map pure_cells cs)

-- What comes first, where behind i tables these are left.
pub record Left (all left : List Declaration) (rest more : List ClosedTable) : Type 0 where
  pub on : (xs : List Declaration) → AreTables more (left ++ xs) → AreTables rest (all ++ xs)
  pub back : (xs : List Declaration) → AreTables rest (all ++ xs) → AreTables more (left ++ xs)

pub left-none : (all : List Declaration) (rest : List ClosedTable) → Left all all rest rest
left-none all rest = record { on = λ xs h. h; back = λ xs h. h }

pub left-more : (all left ds : List Declaration) (rest mid more : List ClosedTable) → Left all (ds ++ left) rest mid →
    IsBehind ds mid more → Left all left rest more
left-more all left ds rest mid more p q = record {
  on = λ xs h. p.on xs (subst (AreTables mid) (sym (append_assoc ds left xs)) (q.on (left ++ xs) h));
  back = λ xs h. q.back (left ++ xs) (subst (AreTables mid) (append_assoc ds left xs) (p.back xs h));
}

pub left-not : (all left ds : List Declaration) (rest mid : List ClosedTable) → Left all (ds ++ left) rest mid →
    ((xs : List Declaration) → AreTables mid (ds ++ xs) → ⊥) → (xs : List Declaration) → AreTables rest (all ++ xs) → ⊥
left-not all left ds rest mid p q xs h = q (left ++ xs) (subst (AreTables mid) (append_assoc ds left xs) (p.back xs h))

pub left-all : (all left : List Declaration) (rest more : List ClosedTable) → left ≡ [] → Left all left rest more → IsBehind all rest more
left-all all left rest more e p = record {
  on = λ xs h. p.on xs (subst (λ l. AreTables more (l ++ xs)) (sym e) h);
  back = λ xs h. subst (λ l. AreTables more (l ++ xs)) e (p.back xs h);
}

next-tables : (ass : List Axes) (cs : List Closed) (i : ℕ) (a b : Axes) (c d : Closed) → i < length ass → a ≡ get_or ass i b →
    i < length cs → c ≡ get_or cs i d →
    tables (drop i ass) (drop i cs) ≡ (table a c ∷ []) ++ tables (drop (i + 1) ass) (drop (i + 1) cs)
next-tables ass cs i a b c d h is k js =
    at_drop_more (λ l. tables l (drop i cs)) ass i b h ∙ ap (λ x. tables (x ∷ drop (i + 1) ass) (drop i cs)) (sym is)
    ∙ at_drop_more (λ l. tables (a ∷ drop (i + 1) ass) l) cs i d k ∙ ap (λ x. tables (a ∷ drop (i + 1) ass) (x ∷ drop (i + 1) cs)) (sym js)

-- Behind i tables.
abbrev pub LeftAt : List Axes → List Closed → ℕ → List ClosedTable → List ClosedTable → Type 0
LeftAt ass cs i rest more = Left (tables ass cs) (tables (drop i ass) (drop i cs)) rest more

pub tables_more : (ass : List Axes) (cs : List Closed) (i : ℕ) (a b : Axes) (c d : Closed) (rest mid more : List ClosedTable) →
    i < length ass → a ≡ get_or ass i b → i < length cs → c ≡ get_or cs i d → LeftAt ass cs i rest mid →
    IsBehind (table a c ∷ []) mid more →
    LeftAt ass cs (i + 1) rest more
tables_more ass cs i a b c d rest mid more h is k js p q =
    left-more _ _ (table a c ∷ []) rest mid more (subst (λ l. Left (tables ass cs) l rest mid) (next-tables ass cs i a b c d h is k js) p) q

pub tables_fail : (ass : List Axes) (cs : List Closed) (i : ℕ) (a b : Axes) (c d : Closed) (rest mid : List ClosedTable) →
    i < length ass → a ≡ get_or ass i b → i < length cs → c ≡ get_or cs i d → LeftAt ass cs i rest mid →
    ((xs : List Declaration) → AreTables mid ((table a c ∷ []) ++ xs) → ⊥) → (xs : List Declaration) →
    AreTables rest (tables ass cs ++ xs) → ⊥
tables_fail ass cs i a b c d rest mid h is k js p q =
    left-not _ _ (table a c ∷ []) rest mid (subst (λ l. Left (tables ass cs) l rest mid) (next-tables ass cs i a b c d h is k js) p) q

none-of : (cs : List Domain) → tables_of [] cs ≡ []
none-of [] = refl
none-of (c ∷ cs) = refl

none-for : (ass : List Axes) → tables_of ass [] ≡ []
none-for [] = refl
none-for (a ∷ ass) = refl

pub tables_short : (ass : List Axes) (cs : List Closed) (i : ℕ) (rest more : List ClosedTable) → length ass ≤ i →
    LeftAt ass cs i rest more →
    IsBehind (tables ass cs) rest more
tables_short ass cs i rest more h p =
    left-all _ _ rest more (at_drop_all (λ l. tables l (drop i cs)) ass i h ∙ none-of (map pure_cells (drop i cs))) p

pub tables_all : (ass : List Axes) (cs : List Closed) (i : ℕ) (rest more : List ClosedTable) → length cs ≤ i → LeftAt ass cs i rest more →
    IsBehind (tables ass cs) rest more
tables_all ass cs i rest more h p =
    left-all _ _ rest more (at_drop_all (λ l. tables (drop i ass) l) cs i h ∙ none-for (drop i ass)) p

pub tables_none : (ass : List Axes) (cs : List Closed) (rest : List ClosedTable) → LeftAt ass cs 0 rest rest
tables_none ass cs rest = left-none (tables ass cs) rest

pub ruleset in_order = (tables_none, tables_more, tables_fail, tables_short, tables_all)

pub cell_behind : (as' : List (List ℤ)) (c : Closed) (rest : List ClosedTable) (o : Option (Bor (List ClosedTable))) → as' ≡ [] →
    pure_cells c ≡ from_one →
    Behind (table as' c ∷ []) rest o → Behind (record { axes = []; cell = from_one } ∷ []) rest o
cell_behind as' c rest o p q h =
    subst (λ l. Behind l rest o) (ap (λ a. record { axes = a; cell = pure_cells c } ∷ []) p
    ∙ ap (λ d. record { axes = []; cell = d } ∷ []) q) h

-- ---- a representation

pub representation_behind : (r : pure.Repr) (d : Domain) (ass : List Axes) (cs : List Closed) (rest : List ClosedTable) (o : Option (Bor
    (List ClosedTable))) →
    ass ≡ axes_of r d → map pure_cells cs ≡ cells_of false r d → Behind (tables_of ass (map pure_cells cs)) rest o →
    Behind (map plain (declarations r d)) rest o
representation_behind r d ass cs rest o p q h =
    subst (λ l. Behind l rest o) (ap (λ l. tables_of l (map pure_cells cs)) p ∙ ap (tables_of (axes_of r d)) q ∙ tables_of-all r d) h
