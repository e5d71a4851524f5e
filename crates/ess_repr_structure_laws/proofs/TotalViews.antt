-- Structures of views are total, also with the domain's numbers under their conditions, with which they mean the same.
use Rattle.std.proofs.Common.{◌≡◌, ◌∙◌, ℕ, ◌<◌, false, Some}
use Rattle.ess_semantics.specs.Values.{Text}
use Rattle.ess_semantics.specs.Order.{same_text}
use Rattle.ess_semantics.specs.Trees.{Repr, no_exs, Dom}
use Rattle.ess_semantics.specs.Domains.{Domain}
use Rattle.ess_semantics.specs.Meaning.{Env, domain_of}
use Rattle.ess_semantics.specs.Totality.{TotalDom}
use Rattle.ess_repr_laws.specs.StructureMeaning.{Bound, M}
use Rattle.ess_repr_structure_laws.specs.Laws.{NamesApart, JudgedView, DenotedView, StructuresAreTotal}
use Rattle.ess_repr_structure_laws.specs.TotalNumbers.{total_dom}
use Rattle.ess_repr_structure_laws.proofs.DenotedParts.{Denotes}
use Rattle.ess_repr_structure_laws.proofs.JudgedViews.{judged-known, known-structures}
use Rattle.ess_repr_structure_laws.proofs.NamesApart.{same-domain, same-total}
use Rattle.ess_repr_structure_laws.proofs.OrderlyDenoted.{orderly-sound}
use Rattle.ess_repr_structure_laws.proofs.ReadyParts.{Known}
use Rattle.ess_repr_structure_laws.proofs.TotalForms.{fits-kept, orderly-kept}
use Rattle.ess_repr_structure_laws.proofs.TotalStructures.{structure-total}
use Rattle.ess_repr_structure_laws.proofs.TotalTerms.{denoted-kept, numbers-in-stay, covered-total}

module _ (env0 : Env) (q : ℕ → Text) (q-apart : (m l : ℕ) → l < m → same_text (q m) (q l) ≡ false) (d : Dom) (e : Domain) where
  abbrev N : Bound env0 q q-apart → Env
  N = M env0 q q-apart

  -- The domain denotes the same whatever reserved names are bound.
  denoted : DenotedView env0 q d e → (bs : Bound env0 q q-apart) → domain_of d (N bs) ≡ Some e
  denoted v bs = let a : NamesApart q d = v.apart in same-domain env0 q q-apart a.names a.apart bs d a.free ∙ v.denotes

  -- Its numbers are total.
  total-there : DenotedView env0 q d e → TotalDom d env0 → (bs : Bound env0 q q-apart) → TotalDom d (N bs)
  total-there v t bs = let a : NamesApart q d = v.apart in same-total env0 q q-apart a.names a.apart bs d a.free t

  -- With its numbers under their conditions.
  denoted-total : (x y : Text) → DenotedView env0 q d e → (bs : Bound env0 q q-apart) → Denotes (total_dom x y d) (N bs)
  denoted-total x y v bs = record { domain = e; means = denoted-kept x y d (N bs) e (denoted v bs); plain = v.plain }

  -- What is known of the view is known of it.
  pub known-total : (x y : Text) (r : Repr) → Known env0 q q-apart r d e → JudgedView env0 q r d e → Known env0 q q-apart r
      (total_dom x y d) e
  known-total x y r k v = record {
    sound = orderly-sound (total_dom x y d) env0 e (orderly-kept x y d v.orderly) (denoted-kept x y d env0 e v.denotes);
    fit = fits-kept x y r d ∙ v.fit;
    room = k.room;
    neat = k.neat;
    plain = k.plain;
    means = λ bs. denoted-kept x y d (N bs) e (k.means bs);
    numbers = λ bs. numbers-in-stay x y d (N bs) (k.numbers bs);
  }

-- So structures are total.
pub structures-total : StructuresAreTotal
structures-total = record {
  total = λ env0 q apart r d e v t ns l bs.
      structure-total env0 q apart r d ns l no_exs (λ cs.
      (record { domain = e; means = denoted env0 q apart d e v cs; plain = v.plain }, total-there env0 q apart d e v t cs)) tt bs;
  guarded = λ x y env0 q apart r d e v c ns l bs.
      structure-total env0 q apart r (total_dom x y d) ns l no_exs
      (λ cs. (denoted-total env0 q apart d e x y v cs, covered-total x y d (M env0 q apart cs) c)) tt bs;
  means = λ x y env0 q apart r d e v ns ts l bs w f o t.
      known-structures env0 q apart r (total_dom x y d) e (known-total env0 q apart d e x y r (judged-known env0 q apart r d e v) v) ns ts l
      bs w f o t;
}
