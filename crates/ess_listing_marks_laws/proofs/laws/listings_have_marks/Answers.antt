use Rattle.ess_listing_marks_laws.proofs.laws.listings_have_marks.Goals as goal
use Rattle.ess_listing_marks_laws.proofs.ListingsMarked.{listings-have-marks}

pub returns : goal.returns
returns c = listings-have-marks
