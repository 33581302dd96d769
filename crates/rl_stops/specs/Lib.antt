pub mod SeenStops
