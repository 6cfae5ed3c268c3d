pub mod NodesStandInNodes
