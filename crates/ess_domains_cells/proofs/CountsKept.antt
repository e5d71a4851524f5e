-- What is kept of a number of cells depends only on what is kept of the volume and the longest axis before the layer.
use Rattle.std.proofs.Common.{◌≡◌, refl, sym, ap, ◌∙◌, ℕ, ◌+◌, ◌*◌, List, [], ◌∷◌, Option, Some, None}
use Rattle.ess_semantics.specs.Trees.{Repr, Reprs, repr, no_reprs, more_reprs}
use Rattle.ess_semantics.specs.Domains.{Domain}
use Rattle.ess_semantics.specs.Tables.{volume}
use Rattle.ess_semantics.specs.Layers.{Layer, OwnTable}
use Rattle.ess_semantics.specs.Representations.{layer}
use Rattle.ess_semantics.specs.Declarations.{longest}
use Rattle.ess_domains_cells.specs.Kept.{kept, greater}
use Rattle.ess_domains_cells.specs.Counted.{own_counted, counted, counted_children}
use Rattle.ess_domains_cells.proofs.KeptNumbers.{kept_sum, kept_product, kept_greater}

-- Sums, products and maxima of numbers of which the same is kept.
pub sum-same : (a b c d : ℕ) → kept a ≡ kept c → kept b ≡ kept d → kept (a + b) ≡ kept (c + d)
sum-same a b c d e f = sym (kept_sum a b) ∙ ap (λ n. kept (n + kept b)) e ∙ ap (λ n. kept (kept c + n)) f ∙ kept_sum c d

pub product-same : (a b c d : ℕ) → kept a ≡ kept c → kept b ≡ kept d → kept (a * b) ≡ kept (c * d)
product-same a b c d e f = sym (kept_product a b) ∙ ap (λ n. kept (n * kept b)) e ∙ ap (λ n. kept (kept c * n)) f ∙ kept_product c d

pub greater-same : (a b c d : ℕ) → kept a ≡ kept c → kept b ≡ kept d → kept (greater a b) ≡ kept (greater c d)
greater-same a b c d e f = sym (kept_greater a b) ∙ ap (λ n. greater n (kept b)) e ∙ ap (λ n. greater (kept c) n) f ∙ kept_greater c d

own-same : (ts : List OwnTable) (v w l m : ℕ) → kept v ≡ kept w → kept l ≡ kept m → kept (own_counted v l ts) ≡ kept (own_counted w m ts)
own-same [] v w l m e f = refl
own-same (t ∷ ts) v w l m e f =
    sum-same (greater (v * volume t.axes) (greater l (longest t.axes))) (own_counted v l ts) (greater (w * volume t.axes) (greater m (longest t.axes))) (own_counted w m ts)
    (greater-same (v * volume t.axes) (greater l (longest t.axes)) (w * volume t.axes) (greater m (longest t.axes))
    (product-same v (volume t.axes) w (volume t.axes) e refl) (greater-same l (longest t.axes) m (longest t.axes) f refl))
    (own-same ts v w l m e f)

layer-same : (o : Option Layer) (rs : Reprs) (v w l m : ℕ) → kept v ≡ kept w → kept l ≡ kept m
    → ((ds : List Domain) (v w l m : ℕ) → kept v ≡ kept w → kept l ≡ kept m → kept (counted_children rs ds v l) ≡ kept (counted_children rs ds w m))
    → kept (elim o [ None ↦ 0 | Some y ↦ own_counted v l y.own + counted_children rs y.children (v * volume y.axes) (greater l (longest y.axes)) ])
    ≡ kept (elim o [ None ↦ 0 | Some y ↦ own_counted w m y.own + counted_children rs y.children (w * volume y.axes) (greater m (longest y.axes)) ])
layer-same None rs v w l m e f h = refl
layer-same (Some y) rs v w l m e f h =
    sum-same (own_counted v l y.own) (counted_children rs y.children (v * volume y.axes) (greater l (longest y.axes)))
    (own_counted w m y.own) (counted_children rs y.children (w * volume y.axes) (greater m (longest y.axes)))
    (own-same y.own v w l m e f)
    (h y.children (v * volume y.axes) (w * volume y.axes) (greater l (longest y.axes)) (greater m (longest y.axes))
    (product-same v (volume y.axes) w (volume y.axes) e refl) (greater-same l (longest y.axes) m (longest y.axes) f refl))

mutual
  pub counted-same : (r : Repr) (d : Domain) (v w l m : ℕ) → kept v ≡ kept w → kept l ≡ kept m → kept (counted r d v l) ≡ kept (counted r d w m)
  counted-same (repr k rs) d v w l m e f = layer-same (layer k d) rs v w l m e f (λ ds a b c g p q. children-same rs ds a b c g p q)

  pub children-same : (rs : Reprs) (ds : List Domain) (v w l m : ℕ) → kept v ≡ kept w → kept l ≡ kept m → kept (counted_children rs ds v l) ≡ kept (counted_children rs ds w m)
  children-same no_reprs ds v w l m e f = refl
  children-same (more_reprs r rs) [] v w l m e f = refl
  children-same (more_reprs r rs) (d ∷ ds) v w l m e f =
      sum-same (counted r d v l) (counted_children rs ds v l) (counted r d w m) (counted_children rs ds w m)
      (counted-same r d v w l m e f) (children-same rs ds v w l m e f)
