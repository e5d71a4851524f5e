-- A list of representations that is taken has no item that is refused.
use Rattle.std.proofs.Common.{◌≡◌, sym, ap, ◌∙◌, subst, ℕ, List, [], ◌∷◌, ◌++◌, append_assoc, append-nil, Option, Some, None}
use Rattle.ess_semantics.specs.Values.{Text}
use Rattle.ess_semantics.specs.Names.{Names, keys}
use Rattle.ess_semantics.specs.Trees.{Repr, Dom, Stm}
use Rattle.ess_semantics.specs.Plans.{Options, kept_names}
use Rattle.conjure_options.specs.Pieces.{pieces}
use Rattle.conjure_options.specs.Items.{IsItem, AreItems}
use Rattle.conjure_options.specs.Refused.{IsFirstRefused}
use Rattle.conjure_modelling.specs.declared.refusal.ModelNo.{ModelNo}
use Rattle.conjure_modelling.specs.Modelled.{TakesList, IsNoModelFor}

-- An item gives one name.
one-name : (ds : Names Dom) (done also : List Text) (i : Text) (b c : Text × List Repr) → IsItem ds done i b → IsItem ds also i c → b.0 ≡ c.0
one-name ds done also i b c f g = ap (λ p. p.0) (sym f.cuts ∙ g.cuts)

-- Behind items of such a list the next one gives a name with representations.
item-taken : (ds : Names Dom) (done front : List Text) (item : Text) (rest : List Text) (o before : Options) →
    AreItems ds done (front ++ item ∷ rest) o → AreItems ds done front before →
    (b : Text × List Repr) × IsItem ds (done ++ keys before) item b
item-taken ds done [] item rest (b ∷ bs) [] h k = (b, subst (λ l. IsItem ds l item b) (sym (append-nil done)) h.0)
item-taken ds done [] item rest [] before h k = absurd h
item-taken ds done [] item rest (b ∷ bs) (c ∷ cs) h k = absurd k
item-taken ds done (f ∷ fs) item rest [] before h k = absurd h
item-taken ds done (f ∷ fs) item rest (b ∷ bs) [] h k = absurd k
item-taken ds done (f ∷ fs) item rest (b ∷ bs) (c ∷ cs) h k =
    let same : b.0 ≡ c.0 = one-name ds done done f b c h.0 k.0 in
    let r = item-taken ds (done ++ c.0 ∷ []) fs item rest bs cs (subst (λ x. AreItems ds (done ++ x ∷ []) (fs ++ item ∷ rest) bs) same h.1) k.1 in
    (r.0, subst (λ l. IsItem ds l item r.0) (append_assoc done (c.0 ∷ []) (keys cs)) r.1)

-- So none is refused.
none-refused : (ds : Names Dom) (items : List Text) (o : Options) (k : ℕ) → AreItems ds [] items o → IsFirstRefused ds items k → ⊥
none-refused ds items o k h v =
    let r = item-taken ds [] v.front v.item v.rest o v.before (subst (λ l. AreItems ds [] l o) v.there h) v.taken in
    v.refused r.0 r.1

-- The list isn't taken where an item of it is refused.
pub list-not-taken : (S : List Stm) (list : Option Text) (k : ℕ) → TakesList S list → IsNoModelFor S list (ModelNo.BadRepresentation k) → ⊥
list-not-taken S None k t v = v
list-not-taken S (Some list) k t v = none-refused (kept_names S) (pieces 47 list) t.0 k t.1 v
