pub mod DayCalls
