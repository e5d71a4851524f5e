-- Counting on the way down counts the cells of the declared tables.
use Rattle.std.proofs.Common.{◌≡◌, refl, sym, ap, ◌∙◌, ℕ, ◌+◌, ◌*◌, Bool, false, List, [], ◌∷◌, ◌++◌, length, map, Option, Some, None, ◌||◌, arith}
use Rattle.std.proofs.lemmas.List.{append_assoc}
use Rattle.std.proofs.Math.Nat.{mul_assoc, one-mul}
use Rattle.ess_semantics.specs.Trees.{Repr, Reprs, repr, no_reprs, more_reprs}
use Rattle.ess_semantics.specs.Domains.{Domain}
use Rattle.ess_semantics.specs.Tables.{volume}
use Rattle.ess_semantics.specs.Cells.{Axes}
use Rattle.ess_semantics.specs.Layers.{Layer, OwnTable}
use Rattle.ess_semantics.specs.Representations.{layer}
use Rattle.ess_semantics.specs.Declarations.{Declaration, declared_own, under, leaves_out, declarations_below, declarations_of_children, declarations, longest, cells_of_table, cell_sum, cell_count}
use Rattle.ess_domains_cells.specs.Kept.{greater}
use Rattle.ess_domains_cells.specs.Counted.{own_counted, counted, counted_children}

-- ---- axes behind axes

volume-append : (a b : Axes) → volume (a ++ b) ≡ volume a * volume b
volume-append [] b = sym (one-mul (volume b))
volume-append (x ∷ a) b = ap (λ n. length x * n) (volume-append a b) ∙ sym (mul_assoc (length x) (volume a) (volume b))

greater-assoc : (a b c : ℕ) → greater a (greater b c) ≡ greater (greater a b) c
greater-assoc a b c = grind arith

greater-0 : (a : ℕ) → greater 0 a ≡ a
greater-0 a = grind arith

longest-append : (a b : Axes) → longest (a ++ b) ≡ greater (longest a) (longest b)
longest-append [] b = sym (greater-0 (longest b))
longest-append (x ∷ a) b = ap (λ n. greater (length x) n) (longest-append a b) ∙ greater-assoc (length x) (longest a) (longest b)

-- ---- declarations behind declarations

sum-append : (ds es : List Declaration) → cell_sum (ds ++ es) ≡ cell_sum ds + cell_sum es
sum-append [] es = omega arith
sum-append (d ∷ ds) es = ap (λ n. cells_of_table d.axes + n) (sum-append ds es) ∙ omega arith

under-append : (a : Axes) (ds es : List Declaration) → under a (ds ++ es) ≡ under a ds ++ under a es
under-append a [] es = refl
under-append a (d ∷ ds) es = ap (λ l. record { axes = a ++ d.axes; cell = d.cell } ∷ l) (under-append a ds es)

under-under : (a b : Axes) (ds : List Declaration) → under a (under b ds) ≡ under (a ++ b) ds
under-under a b [] = refl
under-under a b (d ∷ ds) =
    ap (λ l. record { axes = a ++ (b ++ d.axes); cell = d.cell } ∷ l) (under-under a b ds)
    ∙ ap (λ x. record { axes = x; cell = d.cell } ∷ under (a ++ b) ds) (sym (append_assoc a b d.axes))

under-nothing : (ds : List Declaration) → under [] ds ≡ ds
under-nothing [] = refl
under-nothing (d ∷ ds) = ap (λ l. d ∷ l) (under-nothing ds)

under-children : (out : Bool) (rs : Reprs) (ds : List Domain) (a b : Axes) → under a (declarations_of_children out rs ds b) ≡ declarations_of_children out rs ds (a ++ b)
under-children out no_reprs ds a b = refl
under-children out (more_reprs r rs) [] a b = refl
under-children out (more_reprs r rs) (d ∷ ds) a b =
    under-append a (under b (declarations_below out r d)) (declarations_of_children out rs ds b)
    ∙ ap (λ l. l ++ under a (declarations_of_children out rs ds b)) (under-under a b (declarations_below out r d))
    ∙ ap (λ l. under (a ++ b) (declarations_below out r d) ++ l) (under-children out rs ds a b)

own-sum : (out : Bool) (a : Axes) (ts : List OwnTable) → cell_sum (under a (map (declared_own out) ts)) ≡ own_counted (volume a) (longest a) ts
own-sum out a [] = refl
own-sum out a (t ∷ ts) =
    ap (λ n. cells_of_table (a ++ t.axes) + n) (own-sum out a ts)
    ∙ ap (λ n. greater n (longest (a ++ t.axes)) + own_counted (volume a) (longest a) ts) (volume-append a t.axes)
    ∙ ap (λ n. greater (volume a * volume t.axes) n + own_counted (volume a) (longest a) ts) (longest-append a t.axes)

one-layer : (out : Bool) (o : Option Layer) (rs : Reprs) (a : Axes)
    → ((out : Bool) (ds : List Domain) (b : Axes) → cell_sum (declarations_of_children out rs ds b) ≡ counted_children rs ds (volume b) (longest b))
    → cell_sum (under a (elim o [ None ↦ [] | Some y ↦ map (declared_own out) y.own ++ declarations_of_children (out || leaves_out y.in_use) rs y.children y.axes ]))
    ≡ elim o [ None ↦ 0 | Some y ↦ own_counted (volume a) (longest a) y.own + counted_children rs y.children (volume a * volume y.axes) (greater (longest a) (longest y.axes)) ]
one-layer out None rs a h = refl
one-layer out (Some y) rs a h =
    let deep : Bool = out || leaves_out y.in_use in
    ap cell_sum (under-append a (map (declared_own out) y.own) (declarations_of_children deep rs y.children y.axes))
    ∙ sum-append (under a (map (declared_own out) y.own)) (under a (declarations_of_children deep rs y.children y.axes))
    ∙ ap (λ n. n + cell_sum (under a (declarations_of_children deep rs y.children y.axes))) (own-sum out a y.own)
    ∙ ap (λ l. own_counted (volume a) (longest a) y.own + cell_sum l) (under-children deep rs y.children a y.axes)
    ∙ ap (λ n. own_counted (volume a) (longest a) y.own + n)
    (h deep y.children (a ++ y.axes)
    ∙ ap (λ n. counted_children rs y.children n (longest (a ++ y.axes))) (volume-append a y.axes)
    ∙ ap (λ n. counted_children rs y.children (volume a * volume y.axes) n) (longest-append a y.axes))

mutual
  below-counted : (out : Bool) (r : Repr) (d : Domain) (a : Axes) → cell_sum (under a (declarations_below out r d)) ≡ counted r d (volume a) (longest a)
  below-counted out (repr k rs) d a = one-layer out (layer k d) rs a (λ o ds b. children-counted o rs ds b)

  children-counted : (out : Bool) (rs : Reprs) (ds : List Domain) (a : Axes) → cell_sum (declarations_of_children out rs ds a) ≡ counted_children rs ds (volume a) (longest a)
  children-counted out no_reprs ds a = refl
  children-counted out (more_reprs r rs) [] a = refl
  children-counted out (more_reprs r rs) (d ∷ ds) a =
      sum-append (under a (declarations_below out r d)) (declarations_of_children out rs ds a)
      ∙ ap (λ n. n + cell_sum (declarations_of_children out rs ds a)) (below-counted out r d a)
      ∙ ap (λ n. counted r d (volume a) (longest a) + n) (children-counted out rs ds a)

-- From the top there is one place, and no axis.
pub counted_is : (r : Repr) (d : Domain) → counted r d 1 0 ≡ cell_count r d
counted_is r d = sym (below-counted false r d []) ∙ ap cell_sum (under-nothing (declarations r d))
