-- Tables that fit the given declarations of a model that some text has may be printed, where their numbers are in 64 bits.
use Rattle.std.proofs.Common.{◌≡◌, refl, sym, ap, ◌∙◌, Bool, true, false, ◌&&◌, ◌||◌, not, if◌then◌else◌, List, [], ◌∷◌, map, ℤ, pos, Option, Some, None, option_map, is_some}
use Rattle.std.specs.List.{list_all}
use Rattle.ess_semantics.specs.Lists.{and_then, each_of, is_some_and, list_or_none}
use Rattle.ess_semantics.specs.Values.{Text, Value, number, truth, item, node, itself}
use Rattle.ess_semantics.specs.Order.{same_text}
use Rattle.ess_semantics.specs.Collections.{rises}
use Rattle.ess_semantics.specs.Names.{Names, look, keys, is_among, all_distinct}
use Rattle.ess_semantics.specs.Trees.{Dom, bool_dom, int_dom}
use Rattle.ess_semantics.specs.Domains.{Span, integers, int_members}
use Rattle.ess_semantics.specs.Membership.{member}
use Rattle.ess_semantics.specs.Tables.{Table, code, same_axes, is_filled}
use Rattle.ess_semantics.specs.Large.{in_64_bits}
use Rattle.ess_semantics.specs.DeclaredTables.{TableDecl, axis_members}
use Rattle.ess_semantics.specs.Meaning.{spans_of, meanings}
use Rattle.ess_semantics.specs.ModelMeaning.{bounds_of, env_of_tables}
use Rattle.ess_semantics.specs.Satisfaction.{axis_of, over_declared, in_declared, table_fits, tables_fit}
use Rattle.ess_semantics.proofs.Tests.{and-left, and-right, and-both, or-yes, not-true, some-and}
use Rattle.ess_semantics.proofs.Texts.{same_text-equal, same_text-itself}
use Rattle.ess_semantics.proofs.MemberLists.{integers-listed}
use Rattle.ess_grammar.specs.Readable.{is_name_token}
use Rattle.ess_grammar.specs.Models.{Scope, with_given, is_model_dom, are_model_tables}
use Rattle.eprime_cells_laws.specs.Laws.{is_plain_axis, is_printable_table}
use Rattle.conjure_laws.proofs.NamedTables.{same_axes-equal}
use Rattle.ess_translate_given_laws.specs.Printable.{is_in_64_bits, are_in_64_bits}

-- ---- axes

-- The numbers that members of an int are make them again.
codes-back : (ss : List Span) (ms : List Value) → list_all (member (integers ss)) ms ≡ true → map number (map code ms) ≡ ms
codes-back ss [] h = refl
codes-back ss (number n ∷ ms) h =
    ap (λ l. number n ∷ l) (codes-back ss ms (and-right (member (integers ss) (number n)) (list_all (member (integers ss)) ms) h))
codes-back ss (truth b ∷ ms) h = cc
codes-back ss (item t k ∷ ms) h = cc
codes-back ss (node k xs ∷ ms) h = cc

-- The members of an int rise.
int-axis : (ss : List Span) (a : List ℤ) → option_map (map code) (int_members ss) ≡ Some a → rises itself (map number a) ≡ true
int-axis ss a e = let l = integers-listed ss in go (int_members ss) e l.sorted l.members
  where
    go : (o : Option (List Value)) → option_map (map code) o ≡ Some a → rises itself (list_or_none o) ≡ true →
        list_all (member (integers ss)) (list_or_none o) ≡ true → rises itself (map number a) ≡ true
    go None e r m = cc
    go (Some ms) e r m =
        let q : map code ms ≡ a = cc in
        ap (λ l. rises itself (map number l)) (sym q) ∙ ap (rises itself) (codes-back ss ms m) ∙ r

-- The declared axis of a model rises.
axis-rises : (known : List TableDecl) (q : Names Table) (s : Scope) (d : Dom) (a : List ℤ) → is_model_dom s true [] d ≡ true →
    axis_of known q d ≡ Some a → rises itself (map number a) ≡ true
axis-rises known q s bool_dom a h e =
    let z : pos 0 ∷ pos 1 ∷ [] ≡ a = cc in ap (λ l. rises itself (map number l)) (sym z)
axis-rises known q s (int_dom rs es) a h e = go (spans_of rs (meanings (bounds_of known es []) (env_of_tables q))) e
  where
    go : (o : Option (List Span)) → axis_members (option_map integers o) ≡ Some a → rises itself (map number a) ≡ true
    go None e = cc
    go (Some ss) e = int-axis ss a e
axis-rises known q s _ a h e = cc

-- So does each of several.
axes-rise : (known : List TableDecl) (q : Names Table) (s : Scope) (ds : List Dom) (as' : List (List ℤ)) →
    list_all (is_model_dom s true []) ds ≡ true → each_of ds (axis_of known q) ≡ Some as' →
    list_all (λ a. rises itself (map number a)) as' ≡ true
axes-rise known q s [] as' h e = let z : [] ≡ as' = cc in ap (list_all (λ a. rises itself (map number a))) (sym z)
axes-rise known q s (d ∷ ds) as' h e =
    go (axis_of known q d) (each_of ds (axis_of known q)) refl refl e
    (λ bs y. axes-rise known q s ds bs (and-right (is_model_dom s true [] d) (list_all (is_model_dom s true []) ds) h) y)
  where
    go : (o : Option (List ℤ)) (r : Option (List (List ℤ))) → axis_of known q d ≡ o → each_of ds (axis_of known q) ≡ r →
        and_then o (λ y. option_map (λ ys. y ∷ ys) r) ≡ Some as' →
        ((bs : List (List ℤ)) → each_of ds (axis_of known q) ≡ Some bs → list_all (λ a. rises itself (map number a)) bs ≡ true) →
        list_all (λ a. rises itself (map number a)) as' ≡ true
    go None r x y e k = cc
    go (Some a) None x y e k = cc
    go (Some a) (Some bs) x y e k =
        let z : a ∷ bs ≡ as' = cc in
        ap (list_all (λ a. rises itself (map number a))) (sym z)
        ∙ and-both (rises itself (map number a)) (list_all (λ a. rises itself (map number a)) bs)
        (axis-rises known q s d a (and-left (is_model_dom s true [] d) (list_all (is_model_dom s true []) ds) h) x)
        (k bs y)

-- Axes that rise, in 64 bits, are plain.
plain-axes : (as' : List (List ℤ)) → list_all (λ a. rises itself (map number a)) as' ≡ true → list_all (list_all in_64_bits) as' ≡ true →
    list_all is_plain_axis as' ≡ true
plain-axes [] h k = refl
plain-axes (a ∷ as') h k =
    and-both (is_plain_axis a) (list_all is_plain_axis as')
    (and-both (rises itself (map number a)) (list_all in_64_bits a)
    (and-left (rises itself (map number a)) (list_all (λ a. rises itself (map number a)) as') h)
    (and-left (list_all in_64_bits a) (list_all (list_all in_64_bits) as') k))
    (plain-axes as' (and-right (rises itself (map number a)) (list_all (λ a. rises itself (map number a)) as') h)
    (and-right (list_all in_64_bits a) (list_all (list_all in_64_bits) as') k))

-- ---- declarations

-- What holds of the first declaration of a model.
record First (s : Scope) (t : TableDecl) (ts : List TableDecl) : Type 0 where
  named : is_name_token t.name ≡ true
  new : is_some (look s.tables t.name) ≡ false
  axes : list_all (is_model_dom s true []) t.axes ≡ true
  rest : are_model_tables with_given (with_given s t) ts ≡ true

first : (s : Scope) (t : TableDecl) (ts : List TableDecl) → are_model_tables with_given s (t ∷ ts) ≡ true → First s t ts
first s t ts h =
    let A : Bool = is_name_token t.name in
    let N : Bool = not (is_some (look s.tables t.name)) in
    let X : Bool = list_all (is_model_dom s true []) t.axes in
    let C : Bool = is_model_dom s true [] t.cell in
    let R : Bool = are_model_tables with_given (with_given s t) ts in
    let anx = and-left (A && N && X) C (and-left (A && N && X && C) R h) in
    let an = and-left (A && N) X anx in record {
      named = and-left A N an;
      new = not-true (is_some (look s.tables t.name)) (and-right A N an);
      axes = and-right (A && N) X anx;
      rest = and-right (A && N && X && C) R h;
    }

-- The names of declarations.
abbrev names_in : List TableDecl → List Text
names_in ts = map (λ t. t.name) ts

-- A name of a map has something there.
among-look : (g : Names Bool) (a : Text) → is_some (look g a) ≡ is_among (keys g) a
among-look [] a = refl
among-look (b ∷ g) a = go (same_text b.0 a) (among-look g a)
  where
    go : (t : Bool) → is_some (look g a) ≡ is_among (keys g) a → is_some (if t then Some b.1 else look g a) ≡ t || is_among (keys g) a
    go true h = refl
    go false h = h

-- A name that is there is none of those that are declared later.
not-later : (s : Scope) (ts : List TableDecl) (k : Text) → are_model_tables with_given s ts ≡ true → is_among (keys s.tables) k ≡ true →
    is_among (names_in ts) k ≡ false
not-later s [] k h i = refl
not-later s (t ∷ ts) k h i =
    let f = first s t ts h in
    go (same_text t.name k) refl f.new
    (not-later (with_given s t) ts k f.rest (ap (λ b. same_text t.name k || b) i ∙ or-yes (same_text t.name k)))
  where
    go : (b : Bool) → same_text t.name k ≡ b → is_some (look s.tables t.name) ≡ false → is_among (names_in ts) k ≡ false →
        b || is_among (names_in ts) k ≡ false
    go true e n l =
        let z : true ≡ false =
        sym i ∙ ap (is_among (keys s.tables)) (sym (same_text-equal t.name k e)) ∙ sym (among-look s.tables t.name) ∙ n in cc
    go false e n l = l

-- No name is declared twice.
declared-once : (s : Scope) (ts : List TableDecl) → are_model_tables with_given s ts ≡ true → all_distinct (names_in ts) ≡ true
declared-once s [] h = refl
declared-once s (t ∷ ts) h =
    let f = first s t ts h in
    let i : is_among (keys ((with_given s t).tables)) t.name ≡ true =
    ap (λ b. b || is_among (keys s.tables) t.name) (same_text-itself t.name) in
    and-both (not (is_among (names_in ts) t.name)) (all_distinct (names_in ts)) (ap not (not-later (with_given s t) ts t.name f.rest i))
    (declared-once (with_given s t) ts f.rest)

-- ---- tables

-- Tables that fit have the declared names.
fit-names : (known : List TableDecl) (q : Names Table) (ts : List TableDecl) (c : Names Table) → tables_fit known q ts c ≡ true →
    keys c ≡ names_in ts
fit-names known q [] [] h = refl
fit-names known q [] (b ∷ c) h = cc
fit-names known q (t ∷ ts) [] h = cc
fit-names known q (t ∷ ts) (b ∷ c) h =
    let x = and-left (same_text t.name b.0 && table_fits known q t b.1) (tables_fit known q ts c) h in
    ap (λ a. a ∷ keys c) (sym (same_text-equal t.name b.0 (and-left (same_text t.name b.0) (table_fits known q t b.1) x)))
    ∙ ap (λ l. t.name ∷ l)
    (fit-names known q ts c (and-right (same_text t.name b.0 && table_fits known q t b.1) (tables_fit known q ts c) h))

-- A table that fits a declaration has axes that rise.
table-rises : (known : List TableDecl) (q : Names Table) (s : Scope) (d : TableDecl) (t : Table) →
    list_all (is_model_dom s true []) d.axes ≡ true → table_fits known q d t ≡ true →
    list_all (λ a. rises itself (map number a)) t.axes ≡ true
table-rises known q s d t m h =
    let o = and-left (over_declared known q d t) (in_declared known q d t) h in
    let r = some-and (each_of d.axes (axis_of known q)) (λ as'. same_axes as' t.axes)
    (and-right (is_filled t) (is_some_and (each_of d.axes (axis_of known q)) (λ as'. same_axes as' t.axes)) o) in
    ap (list_all (λ a. rises itself (map number a))) (sym (same_axes-equal r.0 t.axes r.2)) ∙ axes-rise known q s d.axes r.0 m r.1

-- Each table may be printed under its name.
each-printable : (known : List TableDecl) (q : Names Table) (s : Scope) (ts : List TableDecl) (c : Names Table) →
    are_model_tables with_given s ts ≡ true → tables_fit known q ts c ≡ true → are_in_64_bits c ≡ true →
    list_all is_printable_table c ≡ true
each-printable known q s [] [] m h k = refl
each-printable known q s [] (b ∷ c) m h k = cc
each-printable known q s (t ∷ ts) [] m h k = cc
each-printable known q s (t ∷ ts) (b ∷ c) m h k =
    let f = first s t ts m in
    let x = and-left (same_text t.name b.0 && table_fits known q t b.1) (tables_fit known q ts c) h in
    let n : t.name ≡ b.0 = same_text-equal t.name b.0 (and-left (same_text t.name b.0) (table_fits known q t b.1) x) in
    let g = and-left (is_in_64_bits b) (are_in_64_bits c) k in
    and-both (is_printable_table b) (list_all is_printable_table c)
    (and-both (is_name_token b.0) (list_all is_plain_axis b.1.axes && list_all in_64_bits b.1.items) (ap is_name_token (sym n) ∙ f.named)
    (and-both (list_all is_plain_axis b.1.axes) (list_all in_64_bits b.1.items)
    (plain-axes b.1.axes (table-rises known q s t b.1 f.axes (and-right (same_text t.name b.0) (table_fits known q t b.1) x))
    (and-left (list_all (list_all in_64_bits) b.1.axes) (list_all in_64_bits b.1.items) g))
    (and-right (list_all (list_all in_64_bits) b.1.axes) (list_all in_64_bits b.1.items) g)))
    (each-printable known q (with_given s t) ts c f.rest
    (and-right (same_text t.name b.0 && table_fits known q t b.1) (tables_fit known q ts c) h)
    (and-right (is_in_64_bits b) (are_in_64_bits c) k))

-- Tables that fit such declarations may be printed.
pub tables-printable : (known : List TableDecl) (q : Names Table) (s : Scope) (ts : List TableDecl) (c : Names Table) →
    are_model_tables with_given s ts ≡ true → tables_fit known q ts c ≡ true → are_in_64_bits c ≡ true →
    all_distinct (keys c) && list_all is_printable_table c ≡ true
tables-printable known q s ts c m h k =
    and-both (all_distinct (keys c)) (list_all is_printable_table c) (ap all_distinct (fit-names known q ts c h) ∙ declared-once s ts m)
    (each-printable known q s ts c m h k)
