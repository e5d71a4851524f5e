-- What a closed domain stands for, variant by variant.
use Rattle.std.proofs.Common.{◌≡◌, sym, ap, ◌∙◌, List, map, ℕ}
use Rattle.ess_semantics.specs.Values.{Text}
use Rattle.ess_semantics.specs.Domains.{Domain, booleans, integers, named, tuples, matrices, sets, msets, functions, relations, partitions}
use Rattle.ess_eval_domains.specs.ClosedViews.{pure_span, pure_attributes, record_domain, closed_step, field_closed_step, pure_closed, pure_field_closed, pure_closeds}
use Rattle.ess_eval_domains.specs.declared.closed.Span.{Span}
use Rattle.ess_eval_domains.specs.declared.closed.Attribute.{Attribute}
use Rattle.ess_eval_domains.specs.declared.closed.Closed.{Closed}
use Rattle.ess_eval_domains.specs.declared.closed.FieldClosed.{FieldClosed}
use Rattle.ess_eval_domains.specs.declared.closed.Closed.TheOpen.{Closed-F}
use Rattle.ess_eval_domains.specs.declared.closed.Closed.TheVariants as variant
use Rattle.ess_eval_domains.specs.declared.closed.Closed.TheViews.{out-FieldClosed, roll-out-FieldClosed}
use Rattle.ess_eval_domains.specs.declared.closed.Closed.TheFolds.{fold-roll-Closed, fold-roll-FieldClosed}

pub pure_closed_bool : pure_closed variant.Bool ≡ booleans
pure_closed_bool = ap pure_closed (sym variant.rolls-Bool) ∙ fold-roll-Closed Domain (Text × Domain) closed_step field_closed_step Closed-F.Bool

pub pure_closed_int : (ss : List Span) → pure_closed (variant.Int ss) ≡ integers (map pure_span ss)
pure_closed_int ss = ap pure_closed (sym (variant.rolls-Int ss)) ∙ fold-roll-Closed Domain (Text × Domain) closed_step field_closed_step (Closed-F.Int ss)

pub pure_closed_named : (t : Text) (n : ℕ) → pure_closed (variant.Named t n) ≡ named t n
pure_closed_named t n = ap pure_closed (sym (variant.rolls-Named t n)) ∙ fold-roll-Closed Domain (Text × Domain) closed_step field_closed_step (Closed-F.Named t n)

pub pure_closed_tuple : (ds : List Closed) → pure_closed (variant.Tuple ds) ≡ tuples (pure_closeds ds)
pure_closed_tuple ds = ap pure_closed (sym (variant.rolls-Tuple ds)) ∙ fold-roll-Closed Domain (Text × Domain) closed_step field_closed_step (Closed-F.Tuple ds)

pub pure_closed_rec : (fs : List FieldClosed) → pure_closed (variant.Rec fs) ≡ record_domain (map pure_field_closed fs)
pure_closed_rec fs = ap pure_closed (sym (variant.rolls-Rec fs)) ∙ fold-roll-Closed Domain (Text × Domain) closed_step field_closed_step (Closed-F.Rec fs)

pub pure_closed_matrix : (is : List Closed) (d : Closed) → pure_closed (variant.Matrix is d) ≡ matrices (pure_closeds is) (pure_closed d)
pure_closed_matrix is d = ap pure_closed (sym (variant.rolls-Matrix is d)) ∙ fold-roll-Closed Domain (Text × Domain) closed_step field_closed_step (Closed-F.Matrix is d)

pub pure_closed_set : (ks : List Attribute) (d : Closed) → pure_closed (variant.Set ks d) ≡ sets (pure_attributes ks) (pure_closed d)
pure_closed_set ks d = ap pure_closed (sym (variant.rolls-Set ks d)) ∙ fold-roll-Closed Domain (Text × Domain) closed_step field_closed_step (Closed-F.Set ks d)

pub pure_closed_mset : (ks : List Attribute) (d : Closed) → pure_closed (variant.MSet ks d) ≡ msets (pure_attributes ks) (pure_closed d)
pure_closed_mset ks d = ap pure_closed (sym (variant.rolls-MSet ks d)) ∙ fold-roll-Closed Domain (Text × Domain) closed_step field_closed_step (Closed-F.MSet ks d)

pub pure_closed_function : (ks : List Attribute) (d c : Closed) → pure_closed (variant.Function ks d c) ≡ functions (pure_attributes ks) (pure_closed d) (pure_closed c)
pure_closed_function ks d c = ap pure_closed (sym (variant.rolls-Function ks d c)) ∙ fold-roll-Closed Domain (Text × Domain) closed_step field_closed_step (Closed-F.Function ks d c)

pub pure_closed_relation : (ks : List Attribute) (ds : List Closed) → pure_closed (variant.Relation ks ds) ≡ relations (pure_attributes ks) (pure_closeds ds)
pure_closed_relation ks ds = ap pure_closed (sym (variant.rolls-Relation ks ds)) ∙ fold-roll-Closed Domain (Text × Domain) closed_step field_closed_step (Closed-F.Relation ks ds)

pub pure_closed_partition : (ks : List Attribute) (d : Closed) → pure_closed (variant.Partition ks d) ≡ partitions (pure_attributes ks) (pure_closed d)
pure_closed_partition ks d = ap pure_closed (sym (variant.rolls-Partition ks d)) ∙ fold-roll-Closed Domain (Text × Domain) closed_step field_closed_step (Closed-F.Partition ks d)

pub pure_field_closed_is : (x : FieldClosed) → pure_field_closed x ≡ ((out-FieldClosed x).name, pure_closed (out-FieldClosed x).domain)
pure_field_closed_is x = ap pure_field_closed (sym (roll-out-FieldClosed x)) ∙ fold-roll-FieldClosed Domain (Text × Domain) closed_step field_closed_step (out-FieldClosed x)
