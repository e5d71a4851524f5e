pub mod ValueViews
pub mod MachineViews
