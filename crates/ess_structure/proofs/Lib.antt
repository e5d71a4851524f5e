mod WidthSums
mod LayerSteps
mod ComponentSteps
mod Examples
