pub mod FileAssignments
