pub mod SystemFaults
