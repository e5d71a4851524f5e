mod RangeSteps
mod SizeSteps
mod Products
mod Examples
