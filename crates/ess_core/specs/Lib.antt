-- What the trees stand for in the definitions of their meaning
pub mod ValueViews
pub mod TypeViews
pub mod TreeViews
pub mod StatementViews
pub mod TableViews
