-- What nodes stand for
pub mod NodeViews
-- Parts of code trees in two rows
pub mod Split
