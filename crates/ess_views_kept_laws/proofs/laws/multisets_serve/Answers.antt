use Rattle.ess_views_kept_laws.proofs.laws.multisets_serve.Goals as goal
use Rattle.ess_views_kept_laws.proofs.MultisetViews.{multiset_size-keeps, multiset_frequency-keeps, multiset_member-keeps}

pub returns : goal.returns
returns c = record { sizes = multiset_size-keeps; frequencies = multiset_frequency-keeps; members = multiset_member-keeps }
